-- What callers use of decoding in place of its text.
use Rattle.std.proofs.Common.{◌≡◌, ℕ, zero, suc, ◌+◌, ◌-◌, ◌<◌, ◌≤◌, List, [], ◌∷◌, length, drop, IfSome, Some, None, Option, sym, refl, ap, ◌∙◌, subst, arith, length-drop}
use Rattle.std.proofs.lemmas.Bool.Decides.{nat_tests}
use Rattle.std.proofs.lemmas.List.{drop-drop}
use Rattle.std.specs.Option.{option_map}
use Rattle.command.specs.declared.Command.{Command}
use Rattle.feed.specs.Files.{commands, decoded, decoded_at, ending, followed, parsed, unread}

-- A command takes some bytes, and no more than there are.
decoded_size : (bs : List ℕ) → IfSome (decoded bs) (λ d. (0 < d.1) × (d.1 ≤ length bs))
unfolding decoded
decoded_size bs = grind (arith, nat_tests)

pub size_bound : (bs : List ℕ) (c : Command) (k : ℕ) → decoded bs ≡ Some (c, k) → (0 < k) × (k ≤ length bs)
size_bound bs c k e = subst (λ (o : Option (Command × ℕ)). IfSome o (λ d. (0 < d.1) × (d.1 ≤ length bs))) e (decoded_size bs)

pub decoded_empty : (bs : List ℕ) → length bs ≤ 0 → decoded bs ≡ None
unfolding decoded
decoded_empty [] h = refl
decoded_empty (b ∷ bs) h = absurd (omega arith)

-- One step of `parsed`, and that more turns than bytes make no difference.
parsed_none : (n : ℕ) (bs : List ℕ) → decoded bs ≡ None → parsed n bs ≡ ([], length bs)
parsed_none zero bs e = refl
parsed_none (suc n) bs e = ap (followed (parsed n) bs) e

parsed_some : (n : ℕ) (bs : List ℕ) (d : Command × ℕ) → decoded bs ≡ Some d → parsed (suc n) bs ≡ (d.0 ∷ (parsed n (drop d.1 bs)).0, (parsed n (drop d.1 bs)).1)
parsed_some n bs d e = ap (followed (parsed n) bs) e

parsed_enough : (m n : ℕ) (bs : List ℕ) → length bs ≤ m → length bs ≤ n → parsed m bs ≡ parsed n bs
parsed_enough zero n bs h g = sym (parsed_none n bs (decoded_empty bs h))
parsed_enough (suc m) zero bs h g = parsed_none (suc m) bs (decoded_empty bs g)
parsed_enough (suc m) (suc n) bs h g =
    elim (decoded bs) as (λ o. decoded bs ≡ o → parsed (suc m) bs ≡ parsed (suc n) bs) [
      | None ↦ λ e. parsed_none (suc m) bs e ∙ sym (parsed_none (suc n) bs e)
      | Some d ↦ λ e.
          let b = size_bound bs d.0 d.1 e in
          let ih = parsed_enough m n (drop d.1 bs) (simp length-drop (omega arith)) (simp length-drop (omega arith)) in
          let one = parsed_some m bs d e in
          let other = parsed_some n bs d e in
          cc (one, other, ih)
    ] refl

parsed_next : (bs : List ℕ) (c : Command) (k : ℕ) → decoded bs ≡ Some (c, k) → parsed (length bs) bs ≡ (c ∷ (parsed (length (drop k bs)) (drop k bs)).0, (parsed (length (drop k bs)) (drop k bs)).1)
parsed_next bs c k e =
    let enough = parsed_enough (length bs) (suc (length bs)) bs (omega arith) (omega arith) in
    let first = parsed_some (length bs) bs (c, k) e in
    let rest = parsed_enough (length bs) (length (drop k bs)) (drop k bs) (simp length-drop (omega arith)) (omega arith) in
    cc (enough, first, rest)

-- Where a command is decoded, it is the first, and the others are those of the bytes behind it.
pub commands_next : (bs : List ℕ) (c : Command) (k : ℕ) → decoded bs ≡ Some (c, k) → commands bs ≡ c ∷ commands (drop k bs)
unfolding commands
commands_next bs c k e = ap (λ (p : List Command × ℕ). p.0) (parsed_next bs c k e)

pub unread_next : (bs : List ℕ) (c : Command) (k : ℕ) → decoded bs ≡ Some (c, k) → unread bs ≡ unread (drop k bs)
unfolding unread
unread_next bs c k e = ap (λ (p : List Command × ℕ). p.1) (parsed_next bs c k e)

-- Where none is decoded, there are no more commands, and all bytes are left.
pub commands_end : (bs : List ℕ) → decoded bs ≡ None → commands bs ≡ []
unfolding commands
commands_end bs e = ap (λ (p : List Command × ℕ). p.0) (parsed_none (length bs) bs e)

pub unread_end : (bs : List ℕ) → decoded bs ≡ None → unread bs ≡ length bs
unfolding unread
unread_end bs e = ap (λ (p : List Command × ℕ). p.1) (parsed_none (length bs) bs e)

-- The same where the bytes are read from byte i on.
at_some : (i : ℕ) (bs : List ℕ) (c : Command) (n : ℕ) (o : Option (Command × ℕ)) → option_map (ending i) o ≡ Some (c, n) → (k : ℕ) × (o ≡ Some (c, k)) × (i + k ≡ n)
at_some i bs c n None e = let z : ◌≡◌ {A = ℕ} 0 1 = cc in absurd (omega arith)
at_some i bs c n (Some d) e =
    let p : ending i d ≡ (c, n) = cc in
    (d.1, ap (λ (x : Command). Some (x, d.1)) (ap (λ (x : Command × ℕ). x.0) p), ap (λ (x : Command × ℕ). x.1) p)

at_none : (i : ℕ) (o : Option (Command × ℕ)) → option_map (ending i) o ≡ None → o ≡ None
at_none i None e = refl
at_none i (Some d) e = let z : ◌≡◌ {A = ℕ} 0 1 = cc in absurd (omega arith)

pub commands_from : (i : ℕ) (bs : List ℕ) (c : Command) (n : ℕ) → decoded_at i bs ≡ Some (c, n) → commands (drop i bs) ≡ c ∷ commands (drop n bs)
commands_from i bs c n e =
    let p = at_some i bs c n (decoded (drop i bs)) e in
    let q : drop p.0 (drop i bs) ≡ drop n bs = drop-drop p.0 i bs ∙ ap (λ (m : ℕ). drop m bs) p.2 in
    commands_next (drop i bs) c p.0 p.1 ∙ ap (λ (l : List ℕ). c ∷ commands l) q

pub unread_from : (i : ℕ) (bs : List ℕ) (c : Command) (n : ℕ) → decoded_at i bs ≡ Some (c, n) → unread (drop i bs) ≡ unread (drop n bs)
unread_from i bs c n e =
    let p = at_some i bs c n (decoded (drop i bs)) e in
    let q : drop p.0 (drop i bs) ≡ drop n bs = drop-drop p.0 i bs ∙ ap (λ (m : ℕ). drop m bs) p.2 in
    unread_next (drop i bs) c p.0 p.1 ∙ ap unread q

pub commands_from_end : (i : ℕ) (bs : List ℕ) → decoded_at i bs ≡ None → commands (drop i bs) ≡ []
commands_from_end i bs e = commands_end (drop i bs) (at_none i (decoded (drop i bs)) e)

pub unread_from_end : (i : ℕ) (bs : List ℕ) → decoded_at i bs ≡ None → unread (drop i bs) ≡ length bs - i
unread_from_end i bs e = unread_end (drop i bs) (at_none i (decoded (drop i bs)) e) ∙ length-drop i bs

-- No more bytes are left than there are.
parsed_within : (n : ℕ) (bs : List ℕ) → (parsed n bs).1 ≤ length bs
parsed_within zero bs = omega arith
parsed_within (suc n) bs =
    elim (decoded bs) as (λ o. (followed (parsed n) bs o).1 ≤ length bs) [
      | None ↦ omega arith
      | Some d ↦ omega (arith, parsed_within n (drop d.1 bs), length-drop d.1 bs)
    ]

pub unread_bound : (bs : List ℕ) → unread bs ≤ length bs
unfolding unread
unread_bound bs = parsed_within (length bs) bs
