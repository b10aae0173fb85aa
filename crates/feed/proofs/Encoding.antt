-- The round trip: what is written is read again.
use Rattle.std.proofs.Common.{◌≡◌, ℕ, zero, suc, ◌/◌, ◌^◌, ◌<◌, true, false, ltb, List, [], ◌∷◌, ◌++◌, length, Some, refl, ap, ◌∙◌, arith}
use Rattle.std.proofs.lemmas.Bool.Decides.{nat_tests}
use Rattle.std.proofs.lemmas.Nat.{div_below, pow-add}
use Rattle.std.proofs.lemmas.List.{append_assoc, append-nil, drop_at}
use Rattle.std.specs.List.{flat_map, AllByRecursion}
use Rattle.visit.specs.declared.Terms.{Terms}
use Rattle.command.specs.declared.Command.{Command}
use Rattle.command.specs.declared.Command.TheVariants.{Reading, Watermark}
use Rattle.feed.specs.Bytes.{bytes_of, low_first}
use Rattle.feed.specs.Files.{RoundTrip, body, command_bytes, commands, decoded, storable, terms_bytes, terms_in, unread}
use Rattle.feed.proofs.Decoding.{commands_next, unread_next}

pub low_first_bytes : (n x : ℕ) → x < 256 ^ n → low_first (bytes_of n x) ≡ x
unfolding bytes_of
low_first_bytes zero x h = omega arith
low_first_bytes (suc n) x h =
    let p = pow-add 256 1 n in
    let q : x / 256 < 256 ^ n = div_below x 256 (256 ^ n) (omega arith) (omega arith) in
    omega (arith, low_first_bytes n (x / 256) q)

pub terms_back : (t : Terms) (rest : List ℕ) → t.gap < 2 ^ 64 → t.lateness < 2 ^ 64 → t.day < 2 ^ 64 → terms_in (terms_bytes t ++ rest) ≡ Some t
unfolding terms_in bytes_of
terms_back t rest a b d =
    let p = low_first_bytes 8 t.gap a in
    let q = low_first_bytes 8 t.lateness b in
    let r = low_first_bytes 8 t.day d in
    let z : ltb (length (terms_bytes t ++ rest)) 24 ≡ false = grind (arith, nat_tests) in
    simp (z, p, q, r)

-- What stands behind the terms.
pub body_back : (t : Terms) (rest : List ℕ) → body (terms_bytes t ++ rest) ≡ rest
unfolding bytes_of
body_back t rest = refl

pub command_back : (c : Command) (rest : List ℕ) → storable c ≡ true → decoded (command_bytes c ++ rest) ≡ Some (c, length (command_bytes c))
unfolding decoded storable bytes_of
command_back (Reading e) rest h =
    let a : e.card < 2 ^ 32 = grind (arith, nat_tests) in
    let b : e.serial < 2 ^ 32 = grind (arith, nat_tests) in
    let d : e.time < 2 ^ 64 = grind (arith, nat_tests) in
    let f : e.amount < 2 ^ 32 = grind (arith, nat_tests) in
    let p = low_first_bytes 4 e.card a in
    let q = low_first_bytes 4 e.serial b in
    let r = low_first_bytes 8 e.time d in
    let s = low_first_bytes 4 e.amount f in
    let z : ltb (length (command_bytes (Reading e) ++ rest)) 21 ≡ false = grind (arith, nat_tests) in
    simp (z, p, q, r, s)
command_back (Watermark m) rest h =
    let d : m < 2 ^ 64 = grind (arith, nat_tests) in
    let p = low_first_bytes 8 m d in
    let z : ltb (length (command_bytes (Watermark m) ++ rest)) 9 ≡ false = grind (arith, nat_tests) in
    simp (z, p)

-- Commands that are written one behind another are those that are read, then those of what stands behind them.
pub commands_back : (cs : List Command) (rest : List ℕ) → AllByRecursion (λ c. storable c ≡ true) cs → commands (flat_map command_bytes cs ++ rest) ≡ cs ++ commands rest
commands_back [] rest h = refl
commands_back (c ∷ cs) rest h =
    let e = command_back c (flat_map command_bytes cs ++ rest) h.0 in
    let d = drop_at (command_bytes c) (flat_map command_bytes cs ++ rest) _ refl in
    rw append_assoc (commands_next _ c _ e ∙ (ap (λ (l : List ℕ). c ∷ commands l) d ∙ ap (λ (l : List Command). c ∷ l) (commands_back cs rest h.1)))

pub unread_back : (cs : List Command) (rest : List ℕ) → AllByRecursion (λ c. storable c ≡ true) cs → unread (flat_map command_bytes cs ++ rest) ≡ unread rest
unread_back [] rest h = refl
unread_back (c ∷ cs) rest h =
    let e = command_back c (flat_map command_bytes cs ++ rest) h.0 in
    let d = drop_at (command_bytes c) (flat_map command_bytes cs ++ rest) _ refl in
    rw append_assoc (unread_next _ c _ e ∙ (ap unread d ∙ unread_back cs rest h.1))

file_back : (cs : List Command) → AllByRecursion (λ c. storable c ≡ true) cs → (commands (flat_map command_bytes cs) ≡ cs) × (unread (flat_map command_bytes cs) ≡ 0)
unfolding commands unread
file_back cs h =
    let p = commands_back cs [] h in
    let q = unread_back cs [] h in
    (simp append-nil at p, simp append-nil at q)

pub round_trip : RoundTrip
round_trip = record { terms = terms_back; command = command_back; whole_file = file_back }
