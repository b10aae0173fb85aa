-- One line of a day, and the end of its lines.
use Rattle.std.proofs.Common.{◌≡◌, ℕ, ◌+◌, ◌<◌, Bool, true, false, eqb, List, [], ◌∷◌, ◌++◌, length, take, Some, None, Ok, Err, Option, Result, sym, refl, ap, ◌∙◌, append_assoc, append-nil, arith}
use Rattle.std.specs.List.{before_first}
use Rattle.std.proofs.lemmas.List.{nil_from_length}
use Rattle.std.proofs.lemmas.Bool.Decides.{nat_tests}
use Rattle.visit.specs.declared.Terms.{Terms}
use Rattle.command.specs.declared.Command.{Command}
use Rattle.days.specs.declared.BadLine.{BadLine}
use Rattle.days.specs.declared.Reason.{Reason}
use Rattle.days.specs.declared.Reason.TheVariants.{NoTerms}
use Rattle.days.specs.Parsing.{at_line, commands_from, day_from, parsed_command, parsed_terms, then}
use Rattle.days.specs.Words.{line_words, lines, most_words, newline}

pub day_line : (n : ℕ) (l : List ℕ) (ls : List (List ℕ)) → eqb (length (line_words l)) 0 ≡ false → day_from n (l ∷ ls) ≡ then (at_line n (parsed_terms (line_words l))) (λ t. then (commands_from (n + 1) ls) (λ cs. Ok (t, cs)))
unfolding day_from
day_line n l ls o = simp o

pub commands_line : (n : ℕ) (l : List ℕ) (ls : List (List ℕ)) → eqb (length (line_words l)) 0 ≡ false → commands_from n (l ∷ ls) ≡ then (at_line n (parsed_command (line_words l))) (λ c. then (commands_from (n + 1) ls) (λ cs. Ok (c ∷ cs)))
unfolding commands_from
commands_line n l ls o = simp o

-- what the lines that are left say, with the terms if they are read already
abbrev pub left : Option Terms → ℕ → List (List ℕ) → Result (Terms × List Command) BadLine
left None n ls = day_from n ls
left (Some t) n ls = then (commands_from n ls) (λ cs. Ok (t, cs))

-- the same, behind the commands that are read already
abbrev pub behind : List Command → Result (Terms × List Command) BadLine → Result (Terms × List Command) BadLine
behind done r = then r (λ d. Ok (d.0, done ++ d.1))

pub behind_nil : (r : Result (Terms × List Command) BadLine) → behind [] r ≡ r
behind_nil (Ok d) = refl
behind_nil (Err b) = refl

pub left_blank : (o : Option Terms) (n : ℕ) (l : List ℕ) (ls : List (List ℕ)) → eqb (length (line_words l)) 0 ≡ true → left o n (l ∷ ls) ≡ left o (n + 1) ls
unfolding day_from commands_from
left_blank None n l ls e = simp e
left_blank (Some t) n l ls e = simp e

pub left_terms : (n : ℕ) (l : List ℕ) (ls : List (List ℕ)) → eqb (length (line_words l)) 0 ≡ false → left None n (l ∷ ls) ≡ then (at_line n (parsed_terms (line_words l))) (λ t. left (Some t) (n + 1) ls)
left_terms n l ls e = day_line n l ls e

moved : (done : List Command) (t : Terms) (one : Result Command BadLine) (rest : Result (List Command) BadLine) → behind done (then (then one (λ c. then rest (λ cs. Ok (c ∷ cs)))) (λ cs. Ok (t, cs))) ≡ then one (λ c. behind (done ++ c ∷ []) (then rest (λ cs. Ok (t, cs))))
moved done t (Err b) rest = refl
moved done t (Ok c) (Err b) = refl
moved done t (Ok c) (Ok cs) = ap (λ (l : List Command). Ok (t, l)) (sym (append_assoc done (c ∷ []) cs))

pub left_command : (done : List Command) (t : Terms) (n : ℕ) (l : List ℕ) (ls : List (List ℕ)) → eqb (length (line_words l)) 0 ≡ false → behind done (left (Some t) n (l ∷ ls)) ≡ then (at_line n (parsed_command (line_words l))) (λ c. behind (done ++ c ∷ []) (left (Some t) (n + 1) ls))
left_command done t n l ls e = ap (λ (r : Result (List Command) BadLine). behind done (then r (λ cs. Ok (t, cs)))) (commands_line n l ls e) ∙ moved done t _ _

left_end : (done : List Command) (t : Terms) (n : ℕ) → behind done (left (Some t) n (lines [])) ≡ Ok (t, done)
unfolding commands_from lines
left_end done t n = ap (λ (l : List Command). Ok (t, l)) (append-nil done)

left_none : (done : List Command) (n : ℕ) → behind done (left None n (lines [])) ≡ Err (record { line = n; reason = NoTerms })
unfolding day_from lines
left_none done n = refl

-- no line is left
ended : (done : List Command) (o p : Option Terms) (n : ℕ) (xs : List ℕ) → o ≡ p → length xs ≡ 0 → behind done (left o n (lines xs)) ≡ behind done (left p n (lines []))
ended done o p n xs same over =
    ap (λ (q : Option Terms). behind done (left q n (lines xs))) same ∙ ap (λ (l : List ℕ). behind done (left p n (lines l))) (nil_from_length xs over)

pub ended_some : (done : List Command) (o : Option Terms) (n : ℕ) (xs : List ℕ) (t : Terms) → o ≡ Some t → length xs ≡ 0 → behind done (left o n (lines xs)) ≡ Ok (t, done)
ended_some done o n xs t some over = ended done o (Some t) n xs some over ∙ left_end done t n

pub ended_none : (done : List Command) (o : Option Terms) (n : ℕ) (xs : List ℕ) → o ≡ None → length xs ≡ 0 → behind done (left o n (lines xs)) ≡ Err (record { line = n; reason = NoTerms })
ended_none done o n xs none over = ended done o None n xs none over ∙ left_none done n

-- the first words say all that the words of a line say
none_taken : (ws : List (List ℕ)) → eqb (length (take most_words ws)) 0 ≡ eqb (length ws) 0
none_taken [] = refl
none_taken (a ∷ ws) = grind (arith, nat_tests)

longer : (n : ℕ) (ws : List (List ℕ)) → n < length ws → eqb (length ws) n ≡ false
longer n ws more = grind (arith, nat_tests)

terms_taken : (ws : List (List ℕ)) → parsed_terms (take most_words ws) ≡ parsed_terms ws
terms_taken [] = refl
terms_taken (a ∷ []) = refl
terms_taken (a ∷ b ∷ []) = refl
terms_taken (a ∷ b ∷ c ∷ []) = refl
terms_taken (a ∷ b ∷ c ∷ d ∷ []) = refl
terms_taken (a ∷ b ∷ c ∷ d ∷ e ∷ ws) = simp (longer 4 (a ∷ b ∷ c ∷ d ∷ e ∷ take 1 ws) (omega arith), longer 4 (a ∷ b ∷ c ∷ d ∷ e ∷ ws) (omega arith))

command_taken : (ws : List (List ℕ)) → parsed_command (take most_words ws) ≡ parsed_command ws
command_taken [] = refl
command_taken (a ∷ []) = refl
command_taken (a ∷ b ∷ []) = refl
command_taken (a ∷ b ∷ c ∷ []) = refl
command_taken (a ∷ b ∷ c ∷ d ∷ []) = refl
command_taken (a ∷ b ∷ c ∷ d ∷ e ∷ []) = refl
command_taken (a ∷ b ∷ c ∷ d ∷ e ∷ f ∷ ws) =
    let all = a ∷ b ∷ c ∷ d ∷ e ∷ f ∷ ws in
    simp (longer 5 all (omega arith), longer 2 all (omega arith))

-- a turn of the loop over the lines of xs: the first line with its newline, what follows, and the line's words
pub record Turn (xs content next : List ℕ) (found : List (List ℕ)) : Type 0 where
  pub line : lines xs ≡ before_first newline content ∷ lines next
  pub words : found ≡ take most_words (line_words (before_first newline content))

module _ {xs content next : List ℕ} {found : List (List ℕ)} (done : List Command) (o : Option Terms) (n : ℕ) (h : Turn xs content next found) where
  bare_line : (b : Bool) → eqb (length found) 0 ≡ b → eqb (length (line_words (before_first newline content))) 0 ≡ b
  bare_line b e = sym (none_taken (line_words (before_first newline content))) ∙ ap (λ (ws : List (List ℕ)). eqb (length ws) 0) (sym h.words) ∙ e

  pub turn_blank : (all : List Command) (p : Option Terms) → eqb (length found) 0 ≡ true → all ≡ done → p ≡ o → behind all (left p (n + 1) (lines next)) ≡ behind done (left o n (lines xs))
  turn_blank all p e same kept = let l = h.line in let passed = left_blank o n (before_first newline content) (lines next) (bare_line true e) in cc (same, kept, l, passed)

  module _ (r : Result Terms Reason) (none : o ≡ None) (e : eqb (length found) 0 ≡ false) (read : r ≡ parsed_terms found) where
    at_terms : behind done (left o n (lines xs)) ≡ behind done (then (at_line n r) (λ t. left (Some t) (n + 1) (lines next)))
    at_terms = let l = h.line in let ws = h.words in let same = terms_taken (line_words (before_first newline content)) in let taken = left_terms n (before_first newline content) (lines next) (bare_line false e) in cc (none, l, ws, same, read, taken)

    pub bad_terms : (b : BadLine) → at_line n r ≡ Err b → behind done (left o n (lines xs)) ≡ Err b
    bad_terms b got = at_terms ∙ cc got

    pub good_terms : (t : Terms) (all : List Command) (p : Option Terms) → at_line n r ≡ Ok t → all ≡ done → p ≡ Some t → behind all (left p (n + 1) (lines next)) ≡ behind done (left o n (lines xs))
    good_terms t all p got same now = cc (got, same, now) ∙ sym at_terms

  module _ (r : Result Command Reason) (t : Terms) (some : o ≡ Some t) (e : eqb (length found) 0 ≡ false) (read : r ≡ parsed_command found) where
    at_command : behind done (left o n (lines xs)) ≡ then (at_line n r) (λ c. behind (done ++ c ∷ []) (left (Some t) (n + 1) (lines next)))
    at_command = let l = h.line in let ws = h.words in let same = command_taken (line_words (before_first newline content)) in let taken = left_command done t n (before_first newline content) (lines next) (bare_line false e) in cc (some, l, ws, same, read, taken)

    pub bad_command : (b : BadLine) → at_line n r ≡ Err b → behind done (left o n (lines xs)) ≡ Err b
    bad_command b got = at_command ∙ cc got

    pub good_command : (c : Command) (all : List Command) (p : Option Terms) → at_line n r ≡ Ok c → all ≡ done ++ c ∷ [] → p ≡ o → behind all (left p (n + 1) (lines next)) ≡ behind done (left o n (lines xs))
    good_command c all p got put kept = cc (got, put, kept, some) ∙ sym at_command
