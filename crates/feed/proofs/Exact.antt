-- What is read, written again, is the bytes that were read.
use Rattle.std.proofs.Common.{◌≡◌, ℕ, zero, suc, ◌+◌, ◌-◌, ◌*◌, ◌/◌, ◌%◌, ◌^◌, ◌<◌, ◌≤◌, true, List, [], ◌∷◌, ◌++◌, length, get_or, take, drop, IfSome, Some, None, Option, sym, refl, ap, ◌∙◌, subst, arith, length-drop, take-add}
use Rattle.std.proofs.lemmas.Nat.{pow-add}
use Rattle.std.proofs.ByRecursion.{All-drop, All-take}
use Rattle.std.proofs.lemmas.List.{drop-drop, length-take-le, take-append-drop}
use Rattle.std.proofs.lemmas.Bool.Decides.{nat_tests}
use Rattle.std.specs.List.{flat_map, AllByRecursion}
use Rattle.command.specs.declared.Command.{Command}
use Rattle.feed.specs.Bytes.{bytes_of, low_first, number_at}
use Rattle.feed.specs.Files.{Lossless, command_bytes, commands, decoded, reading_in, storable, unread, watermark_in}
use Rattle.feed.proofs.Decoding.{commands_end, commands_next, decoded_empty, size_bound, unread_bound, unread_end, unread_next}

abbrev Bytes : List ℕ → Type 0
Bytes bs = AllByRecursion (λ b. b < 256) bs

-- The bytes of the number that bytes make are those bytes, and it fits them.
bytes_low_first : (bs : List ℕ) → Bytes bs → bytes_of (length bs) (low_first bs) ≡ bs
unfolding bytes_of
bytes_low_first [] h = refl
bytes_low_first (b ∷ bs) h =
    let p : (b + 256 * low_first bs) % 256 ≡ b = omega (arith, h.0) in
    let q : (b + 256 * low_first bs) / 256 ≡ low_first bs = omega (arith, h.0) in
    let ih = bytes_low_first bs h.1 in
    simp (p, q, ih)

one_more_lt : (b y n : ℕ) → b < 256 → y < 256 ^ n → b + 256 * y < 256 ^ suc n
one_more_lt b y n h l = omega (arith, pow-add 256 1 n)

low_first_lt : (bs : List ℕ) → Bytes bs → low_first bs < 256 ^ length bs
low_first_lt [] h = omega arith
low_first_lt (b ∷ bs) h = one_more_lt b (low_first bs) (length bs) h.0 (low_first_lt bs h.1)

-- The same of n bytes from byte i on.
part_back : (n i : ℕ) (bs : List ℕ) → Bytes bs → i + n ≤ length bs → bytes_of n (number_at n i bs) ≡ take n (drop i bs)
part_back n i bs h l =
    let e : length (take n (drop i bs)) ≡ n = length-take-le n (drop i bs) (omega (arith, length-drop i bs)) in
    subst (λ (k : ℕ). bytes_of k (number_at n i bs) ≡ take n (drop i bs)) e
    (bytes_low_first (take n (drop i bs)) (All-take (λ b. b < 256) n (drop i bs) (All-drop (λ b. b < 256) i bs h)))

part_lt : (n i : ℕ) (bs : List ℕ) → Bytes bs → i + n ≤ length bs → number_at n i bs < 256 ^ n
part_lt n i bs h l =
    let e : length (take n (drop i bs)) ≡ n = length-take-le n (drop i bs) (omega (arith, length-drop i bs)) in
    subst (λ (k : ℕ). number_at n i bs < 256 ^ k) e
    (low_first_lt (take n (drop i bs)) (All-take (λ b. b < 256) n (drop i bs) (All-drop (λ b. b < 256) i bs h)))

-- One number, then the rest.
part_then : (n m i : ℕ) (bs rest : List ℕ) → Bytes bs → i + n ≤ length bs → rest ≡ take m (drop (i + n) bs) → bytes_of n (number_at n i bs) ++ rest ≡ take (n + m) (drop i bs)
part_then n m i bs rest h l e =
    ap (λ (l : List ℕ). l ++ rest) (part_back n i bs h l)
    ∙ (ap (λ (r : List ℕ). take n (drop i bs) ++ r) (e ∙ ap (take m) (sym (drop-drop n i bs))) ∙ sym (take-add n m (drop i bs)))

kind_then : (k n : ℕ) (bs rest : List ℕ) → 0 < length bs → get_or bs 0 0 ≡ k → rest ≡ take n (drop 1 bs) → k ∷ rest ≡ take (suc n) bs
kind_then k n [] rest l e p = absurd (omega arith)
kind_then k n (b ∷ bs) rest l e p = cc

-- What holds of a command that was read from bytes.
abbrev Exact : List ℕ → Command × ℕ → Type 0
Exact bs d = (command_bytes d.0 ≡ take d.1 bs) × (storable d.0 ≡ true)

reading_exact : (bs : List ℕ) → Bytes bs → 21 ≤ length bs → get_or bs 0 0 ≡ 0 → Exact bs (reading_in bs, 21)
unfolding storable
reading_exact bs h l e =
    let p = part_lt 4 1 bs h (omega arith) in
    let q = part_lt 4 5 bs h (omega arith) in
    let r = part_lt 8 9 bs h (omega arith) in
    let s = part_lt 4 17 bs h (omega arith) in
    let amount = part_back 4 17 bs h (omega arith) in
    let time = part_then 8 4 9 bs _ h (omega arith) amount in
    let serial = part_then 4 12 5 bs _ h (omega arith) time in
    let card = part_then 4 16 1 bs _ h (omega arith) serial in
    (kind_then 0 20 bs _ (omega arith) e card, grind (arith, nat_tests))

watermark_exact : (bs : List ℕ) → Bytes bs → 9 ≤ length bs → get_or bs 0 0 ≡ 1 → Exact bs (watermark_in bs, 9)
unfolding storable
watermark_exact bs h l e =
    let p = part_lt 8 1 bs h (omega arith) in
    (kind_then 1 8 bs _ (omega arith) e (part_back 8 1 bs h (omega arith)), grind (arith, nat_tests))

decoded_exact : (bs : List ℕ) → Bytes bs → IfSome (decoded bs) (Exact bs)
unfolding decoded
decoded_exact bs h = grind (arith, nat_tests, reading_exact bs h, watermark_exact bs h)

pub command_exact : (bs : List ℕ) (c : Command) (k : ℕ) → Bytes bs → decoded bs ≡ Some (c, k) → Exact bs (c, k)
command_exact bs c k h e = subst (λ (o : Option (Command × ℕ)). IfSome o (Exact bs)) e (decoded_exact bs h)

file_end : (bs : List ℕ) → decoded bs ≡ None → flat_map command_bytes (commands bs) ≡ take (length bs - unread bs) bs
file_end bs e =
    let z : length bs - unread bs ≡ 0 = omega (arith, unread_end bs e) in
    simp (z, commands_end bs e)

-- By recursion on a number that the bytes do not exceed.
file_exact : (n : ℕ) (bs : List ℕ) → length bs ≤ n → Bytes bs → flat_map command_bytes (commands bs) ≡ take (length bs - unread bs) bs
file_exact zero bs l h = file_end bs (decoded_empty bs l)
file_exact (suc n) bs l h =
    elim (decoded bs) as (λ o. decoded bs ≡ o → flat_map command_bytes (commands bs) ≡ take (length bs - unread bs) bs) [
      | None ↦ λ e. file_end bs e
      | Some d ↦ λ e.
          let rest = drop d.1 bs in
          let b = size_bound bs d.0 d.1 e in
          let k = length-drop d.1 bs in
          let u = unread_bound rest in
          let ih = file_exact n rest (omega arith) (All-drop (λ b. b < 256) d.1 bs h) in
          let q : d.1 + (length rest - unread rest) ≡ length bs - unread bs = omega (arith, unread_next bs d.0 d.1 e) in
          let all = commands_next bs d.0 d.1 e in
          let first = (command_exact bs d.0 d.1 h e).0 in
          let more = take-add d.1 (length rest - unread rest) bs in
          cc (all, first, ih, more, q)
    ] refl

pub lossless : Lossless
lossless =
    record {
      command = command_exact;
      whole_file = λ bs h.
          ap (λ (l : List ℕ). l ++ drop (length bs - unread bs) bs) (file_exact (length bs) bs (omega arith) h)
          ∙ take-append-drop (length bs - unread bs) bs;
    }
