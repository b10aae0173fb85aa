-- A written day is read back.
use Rattle.std.proofs.Common.{◌≡◌, ℕ, ◌+◌, ◌^◌, ◌<◌, true, false, eqb, ltb, List, [], ◌∷◌, ◌++◌, length, filter, Ok, decimal, Result, refl, ap, ◌∙◌, append_assoc, arith, rules}
use Rattle.std.specs.List.{flat_map, AllByRecursion}
use Rattle.std.specs.Str.{all_ascii_digits}
use Rattle.std.proofs.lemmas.Fmt.{decimal_nonempty, digits_decimal, digits_value-decimal}
use Rattle.std.proofs.ByRecursion.{All-append, All-weaker}
use Rattle.std.proofs.lemmas.List.Elements.{All-from_recursion}
use Rattle.std.proofs.lemmas.List.Splits.{slice_split_at, slice_split_none}
use Rattle.std.proofs.lemmas.Bool.Decides.{nat_tests}
use Rattle.visit.specs.declared.Terms.{Terms}
use Rattle.command.specs.declared.Command.{Command}
use Rattle.command.specs.declared.Command.TheVariants.{Reading, Watermark}
use Rattle.days.specs.declared.BadLine.{BadLine}
use Rattle.days.specs.declared.Reason.{Reason}
use Rattle.command.specs.Bounds.{word_limit}
use Rattle.days.specs.Numbers.{number_in, number_limit}
use Rattle.days.specs.Parsing.{at_line, commands_from, day_from, parsed_command, parsed_terms, then}
use Rattle.days.specs.RoundTrip.{CommandFits, ParsesBack, TermsFit}
use Rattle.days.specs.Words.{blank, filled, hash, line_words, lines, newline, words}
use Rattle.days.specs.Writing.{command_text, command_words, spaced, terms_words}
use Rattle.days.proofs.Digits.{filled_is, own}
use Rattle.days.proofs.Splitting.{before_all, lines_cut, words_nil}
use Rattle.days.proofs.Steps.{commands_line, day_line}

-- a byte that ends neither a line nor its code, and one that ends no word either
abbrev Inline : ℕ → Type 0
Inline b = (newline b ≡ false) × (hash b ≡ false)

abbrev Clean : List ℕ → Type 0
Clean w = (filled w ≡ true) × (AllByRecursion (λ b. blank b ≡ false) w × AllByRecursion Inline w)

words_cut : (w rest : List ℕ) → Clean w → words (w ++ 32 ∷ rest) ≡ w ∷ words rest
unfolding words
words_cut w rest h = ap (filter filled) (slice_split_at blank w 32 rest (All-from_recursion (λ b. blank b ≡ false) w h.1.0) refl) ∙ simp h.0

words_one : (w : List ℕ) → Clean w → words w ≡ w ∷ []
unfolding words
words_one w h = ap (filter filled) (slice_split_none blank w (All-from_recursion (λ b. blank b ≡ false) w h.1.0)) ∙ simp h.0

words_spaced : (ws : List (List ℕ)) → AllByRecursion Clean ws → words (spaced ws) ≡ ws
words_spaced [] a = words_nil
words_spaced (w ∷ []) a = words_one w a.0
words_spaced (w ∷ v ∷ ws) a = words_cut w (spaced (v ∷ ws)) a.0 ∙ ap (λ (l : List (List ℕ)). w ∷ l) (words_spaced (v ∷ ws) a.1)

spaced_inline : (ws : List (List ℕ)) → AllByRecursion Clean ws → AllByRecursion Inline (spaced ws)
spaced_inline [] a = tt
spaced_inline (w ∷ []) a = a.0.1.1
spaced_inline (w ∷ v ∷ ws) a = All-append Inline w (32 ∷ spaced (v ∷ ws)) a.0.1.1 ((refl, refl), spaced_inline (v ∷ ws) a.1)

-- a line of words, and the words of that line
lines_back : (ws : List (List ℕ)) (rest : List ℕ) → AllByRecursion Clean ws → lines ((spaced ws ++ 10 ∷ []) ++ rest) ≡ spaced ws ∷ lines rest
lines_back ws rest a =
    ap lines (append_assoc (spaced ws) (10 ∷ []) rest)
    ∙ lines_cut (spaced ws) rest (All-weaker Inline (λ b. newline b ≡ false) (λ b h. h.0) (spaced ws) (spaced_inline ws a))

words_back : (ws : List (List ℕ)) → AllByRecursion Clean ws → line_words (spaced ws) ≡ ws
words_back ws a =
    ap words (before_all hash (spaced ws) (All-weaker Inline (λ b. hash b ≡ false) (λ b h. h.1) (spaced ws) (spaced_inline ws a)))
    ∙ words_spaced ws a

-- numbers
digits_word : (ds : List ℕ) → all_ascii_digits ds ≡ true → AllByRecursion (λ b. blank b ≡ false) ds
digits_word [] h = tt
digits_word (d ∷ ds) h = (grind (arith, nat_tests), digits_word ds (grind (arith, nat_tests)))

digits_inline : (ds : List ℕ) → all_ascii_digits ds ≡ true → AllByRecursion Inline ds
digits_inline [] h = tt
digits_inline (d ∷ ds) h = ((grind (arith, nat_tests), grind (arith, nat_tests)), digits_inline ds (grind (arith, nat_tests)))

decimal_filled : (n : ℕ) → n < 2 ^ 64 → filled (decimal n) ≡ true
decimal_filled n h = let f = filled_is (decimal n) in let s = decimal_nonempty n h in grind (arith, nat_tests)

decimal_clean : (n : ℕ) → n < 2 ^ 64 → Clean (decimal n)
decimal_clean n h = let d = digits_decimal own n h in (decimal_filled n h, (digits_word _ d, digits_inline _ d))

number_back : (limit n : ℕ) → n < limit → n < 2 ^ 64 → number_in limit (decimal n) ≡ Ok n
number_back limit n l h =
    let below : ltb n limit ≡ true = grind (arith, nat_tests) in simp (decimal_filled n h, digits_decimal own n h, digits_value-decimal own n h, below)

terms_clean : (t : Terms) → TermsFit t → AllByRecursion Clean (terms_words t)
terms_clean t f = ((refl, (search rules, search rules)), (decimal_clean _ f.0, (decimal_clean _ f.1, (decimal_clean _ f.2, tt))))

terms_back : (t : Terms) → TermsFit t → parsed_terms (terms_words t) ≡ Ok t
terms_back t f =
    simp (number_back number_limit t.gap f.0 f.0, number_back number_limit t.lateness f.1 f.1, number_back number_limit t.day f.2 f.2)

word_fits : (n : ℕ) → n < word_limit → n < 2 ^ 64
word_fits n h = omega arith

command_clean : (c : Command) → CommandFits c → AllByRecursion Clean (command_words c)
command_clean (Reading e) f = (
  (refl, (search rules, search rules)),
  (decimal_clean _ (word_fits _ f.0), (decimal_clean _ f.1, (decimal_clean _ (word_fits _ f.2), (decimal_clean _ (word_fits _ f.3), tt)))),
)
command_clean (Watermark m) f = ((refl, (search rules, search rules)), (decimal_clean _ f, tt))

command_back : (c : Command) → CommandFits c → parsed_command (command_words c) ≡ Ok c
command_back (Reading e) f =
    simp (number_back word_limit e.card f.0 (word_fits _ f.0), number_back number_limit e.time f.1 f.1, number_back word_limit e.serial f.2 (word_fits _ f.2), number_back word_limit e.amount f.3 (word_fits _ f.3))
command_back (Watermark m) f = simp (number_back number_limit m f f)

command_some : (c : Command) → eqb (length (command_words c)) 0 ≡ false
command_some (Reading e) = refl
command_some (Watermark m) = refl

commands_none : (n : ℕ) → commands_from n (lines []) ≡ Ok []
unfolding commands_from lines
commands_none n = refl

commands_back : (n : ℕ) (cs : List Command) → AllByRecursion CommandFits cs → commands_from n (lines (flat_map command_text cs)) ≡ Ok cs
commands_back n [] a = commands_none n
commands_back n (c ∷ cs) a =
    let ws = command_words c in
    let clean = command_clean c a.0 in
    let cut = lines_back ws (flat_map command_text cs) clean in
    let said = words_back ws clean in
    let first = commands_line n (spaced ws) (lines (flat_map command_text cs)) (ap (λ (v : List (List ℕ)). eqb (length v) 0) said ∙ command_some c) in
    let one = command_back c a.0 in
    let rest = commands_back (n + 1) cs a.1 in
    cc (cut, first, said, one, rest)

pub parses_back : ParsesBack
parses_back t cs f a =
    let ws = terms_words t in
    let clean = terms_clean t f in
    let left = commands_from 2 (lines (flat_map command_text cs)) in
    ap (day_from 1) (lines_back ws (flat_map command_text cs) clean)
    ∙ day_line 1 (spaced ws) (lines (flat_map command_text cs)) (ap (λ (v : List (List ℕ)). eqb (length v) 0) (words_back ws clean))
    ∙ ap (λ (r : Result Terms Reason). then (at_line 1 r) (λ t. then left (λ cs. Ok (t, cs)))) (ap parsed_terms (words_back ws clean) ∙ terms_back t f)
    ∙ ap (λ (r : Result (List Command) BadLine). then r (λ cs. Ok (t, cs))) (commands_back 2 cs a)
