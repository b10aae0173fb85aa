-- Bytes that go on: what stands behind a whole command does not change it.
use Rattle.std.proofs.Common.{◌≡◌, ℕ, ◌+◌, ◌-◌, ◌<◌, ◌≤◌, true, false, List, [], ◌∷◌, ◌++◌, length, take, drop, IfSome, Some, None, Option, ltb, subst, sym, refl, ap, append-nil, ◌∙◌, arith, length-append, length-drop}
use Rattle.std.proofs.lemmas.Bool.Decides.{nat_tests}
use Rattle.std.proofs.lemmas.List.{drop-append-le, get_or_append_left, take-append-le}
use Rattle.visit.specs.declared.Terms.{Terms}
use Rattle.command.specs.declared.Command.{Command}
use Rattle.feed.specs.Bytes.{low_first, number_at}
use Rattle.feed.specs.Commands.{IsFront}
use Rattle.feed.specs.Files.{commands, decoded, reading_in, terms_in, unknown_kind, unread}
use Rattle.feed.proofs.Decoding.{commands_end, commands_next, size_bound, unread_bound, unread_end, unread_next}

-- A number that is whole.
number_more : (n i : ℕ) (bs more : List ℕ) → i + n ≤ length bs → number_at n i (bs ++ more) ≡ number_at n i bs
number_more n i bs more h =
    ap (λ (l : List ℕ). low_first (take n l)) (drop-append-le i bs more (omega arith))
    ∙ ap low_first (take-append-le n (drop i bs) more (omega (arith, length-drop i bs)))

reading_more : (bs more : List ℕ) → 21 ≤ length bs → reading_in (bs ++ more) ≡ reading_in bs
reading_more bs more h =
    let card = number_more 4 1 bs more (omega arith) in
    let serial = number_more 4 5 bs more (omega arith) in
    let time = number_more 8 9 bs more (omega arith) in
    let amount = number_more 4 17 bs more (omega arith) in
    simp (card, serial, time, amount)

-- Terms that are whole.
pub terms_more : (bs more : List ℕ) → 24 ≤ length bs → terms_in (bs ++ more) ≡ terms_in bs
unfolding terms_in
terms_more bs more h =
    let gap = number_more 8 0 bs more (omega arith) in
    let lateness = number_more 8 8 bs more (omega arith) in
    let day = number_more 8 16 bs more (omega arith) in
    let few : ltb (length bs) 24 ≡ false = grind (arith, nat_tests) in
    let fewer : ltb (length (bs ++ more)) 24 ≡ false = grind (arith, nat_tests, length-append bs more) in
    simp (few, fewer, gap, lateness, day)

-- Terms that are not.
pub terms_short : (bs : List ℕ) → terms_in bs ≡ None → length bs < 24
unfolding terms_in
terms_short bs e = grind (arith, nat_tests)

pub terms_long : (bs : List ℕ) (t : Terms) → terms_in bs ≡ Some t → 24 ≤ length bs
unfolding terms_in
terms_long bs t e = grind (arith, nat_tests)

-- A command that is whole.
decoded_whole : (bs more : List ℕ) → IfSome (decoded bs) (λ d. decoded (bs ++ more) ≡ Some d)
unfolding decoded
decoded_whole bs more = grind (arith, nat_tests, length-append bs more, get_or_append_left bs more 0 0, reading_more bs more, number_more 8 1 bs more)

decoded_more : (bs more : List ℕ) (c : Command) (k : ℕ) → decoded bs ≡ Some (c, k) → decoded (bs ++ more) ≡ Some (c, k)
decoded_more bs more c k e = subst (λ (o : Option (Command × ℕ)). IfSome o (λ d. decoded (bs ++ more) ≡ Some d)) e (decoded_whole bs more)

pub commands_more : (bs more : List ℕ) (c : Command) (rest : List ℕ) → IsFront bs c rest → commands (bs ++ more) ≡ c ∷ commands (rest ++ more)
commands_more bs more c rest f =
    let k = length bs - length rest in
    let b = size_bound bs c k f.command in
    commands_next (bs ++ more) c k (decoded_more bs more c k f.command)
    ∙ ap (λ (l : List ℕ). c ∷ commands l) (drop-append-le k bs more b.1 ∙ ap (λ (l : List ℕ). l ++ more) (sym f.behind))

pub unread_more : (bs more : List ℕ) (c : Command) (rest : List ℕ) → IsFront bs c rest → unread (bs ++ more) ≡ unread (rest ++ more)
unread_more bs more c rest f =
    let k = length bs - length rest in
    let b = size_bound bs c k f.command in
    unread_next (bs ++ more) c k (decoded_more bs more c k f.command) ∙ ap unread (drop-append-le k bs more b.1 ∙ ap (λ (l : List ℕ). l ++ more) (sym f.behind))

-- Where no byte can be read, no command is whole.
pub none_whole : (bs : List ℕ) → unread bs ≡ length bs → decoded bs ≡ None
none_whole bs u =
    elim (decoded bs) as (λ o. decoded bs ≡ o → decoded bs ≡ None) [
      | None ↦ λ e. e
      | Some d ↦ λ e.
          let b = size_bound bs d.0 d.1 e in
          absurd (omega (arith, unread_next bs d.0 d.1 e, unread_bound (drop d.1 bs), length-drop d.1 bs))
    ] refl

pub none_commands : (bs : List ℕ) → unread bs ≡ length bs → commands (bs ++ []) ≡ []
none_commands bs u = ap commands (append-nil bs) ∙ commands_end bs (none_whole bs u)

-- So where nothing is left.
pub none_left : (bs : List ℕ) → bs ≡ [] → unread bs ≡ length bs
none_left bs e = omega (arith, unread_bound bs, ap length e)

-- What is not whole is short or of unknown kind, and of unknown kind it stays.
none_known : (bs : List ℕ) → decoded bs ≡ None → unknown_kind bs ≡ false → length bs < 21
unfolding decoded
none_known bs e k = grind (arith, nat_tests)

pub known_short : (bs : List ℕ) → unread bs ≡ length bs → unknown_kind bs ≡ false → length bs < 21
known_short bs u k = none_known bs (none_whole bs u) k

unknown_none : (bs more : List ℕ) → unknown_kind bs ≡ true → decoded (bs ++ more) ≡ None
unfolding decoded
unknown_none [] more k = cc
unknown_none (kind ∷ bs) more k = grind (arith, nat_tests)

pub unknown_commands : (bs more : List ℕ) → unknown_kind bs ≡ true → commands (bs ++ more) ≡ []
unknown_commands bs more k = commands_end (bs ++ more) (unknown_none bs more k)

pub unknown_unread : (bs more : List ℕ) → unknown_kind bs ≡ true → unread (bs ++ more) ≡ length bs + length more
unknown_unread bs more k = unread_end (bs ++ more) (unknown_none bs more k) ∙ length-append bs more
