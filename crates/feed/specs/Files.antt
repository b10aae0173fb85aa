-- Command files: 24 bytes of terms, then commands of 21 or 9 bytes.
use Rattle.std.specs.Prelude.{◌≡◌, ℕ, zero, suc, ◌+◌, ◌-◌, ◌^◌, ◌<◌, Bool, true, false, cond, ◌&&◌, List, [], ◌∷◌, ◌++◌, length, take, drop, Some, None, Option, ◌==◌, nat_lt, slice_index}
use Rattle.std.specs.Option.{option_map}
use Rattle.std.specs.List.{flat_map, AllByRecursion}
use Rattle.visit.specs.declared.Terms.{Terms}
use Rattle.command.specs.declared.Command.{Command}
use Rattle.command.specs.declared.Command.TheVariants.{Reading, Watermark}
use Rattle.feed.specs.Bytes.{number_at, bytes_of}

-- How many bytes the terms, a reading and a watermark take.
abbrev pub terms_size : ℕ
terms_size = 24

abbrev pub reading_size : ℕ
reading_size = 21

abbrev pub watermark_size : ℕ
watermark_size = 9

-- The bytes behind the terms.
abbrev pub body : List ℕ → List ℕ
body file = drop terms_size file

-- Gap, lateness and day length, eight bytes each.
unfoldable pub terms_in : List ℕ → Option Terms
terms_in bs =
    cond (nat_lt (length bs) terms_size) None
    (Some (record { gap = number_at 8 0 bs; lateness = number_at 8 8 bs; day = number_at 8 16 bs }))

-- A command of n bytes, if that many are left.
abbrev pub whole : ℕ → Command → List ℕ → Option (Command × ℕ)
whole n c bs = cond (nat_lt (length bs) n) None (Some (c, n))

-- Kind 0: card (4), serial (4), time (8), amount (4).
abbrev pub reading_in : List ℕ → Command
reading_in bs =
    Reading (record { card = number_at 4 1 bs; time = number_at 8 9 bs; serial = number_at 4 5 bs; amount = number_at 4 17 bs })

-- Kind 1: a watermark (8).
abbrev pub watermark_in : List ℕ → Command
watermark_in bs = Watermark (number_at 8 1 bs)

-- The command at the front of the bytes and how many it takes, by the kind in its first byte.
-- None if it ends early, which it does where nothing is left, or if its kind is unknown.
unfoldable pub decoded : List ℕ → Option (Command × ℕ)
decoded bs =
    cond (slice_index bs 0 == 0) (whole reading_size (reading_in bs) bs)
    (cond (slice_index bs 0 == 1) (whole watermark_size (watermark_in bs) bs) None)

-- A command with where it ends, if it begins at byte i.
abbrev pub ending : ℕ → Command × ℕ → Command × ℕ
ending i d = (d.0, i + d.1)

-- The command that begins at byte i, and where the next begins.
abbrev pub decoded_at : ℕ → List ℕ → Option (Command × ℕ)
decoded_at i bs = option_map (ending i) (decoded (drop i bs))

-- The command that is decoded, with what is parsed behind it; else nothing, and all bytes are left.
abbrev pub followed : (List ℕ → List Command × ℕ) → List ℕ → Option (Command × ℕ) → List Command × ℕ
followed behind bs None = ([], length bs)
followed behind bs (Some d) = (d.0 ∷ (behind (drop d.1 bs)).0, (behind (drop d.1 bs)).1)

-- At most n commands, one behind another, and how many bytes are left where that stops.
abbrev pub parsed : ℕ → List ℕ → List Command × ℕ
parsed zero bs = ([], length bs)
parsed (suc n) bs = followed (parsed n) bs (decoded bs)

-- All commands of the bytes behind the terms, up to where decoding stops; there are no more of them than bytes.
unfoldable pub commands : List ℕ → List Command
commands bs = (parsed (length bs) bs).0

-- How many bytes are left there.
unfoldable pub unread : List ℕ → ℕ
unread bs = (parsed (length bs) bs).1

-- The kind at the front is unknown: no command begins there, however the bytes go on.
abbrev pub unknown_kind : List ℕ → Bool
unknown_kind [] = false
unknown_kind (kind ∷ bs) = nat_lt 1 kind

-- Every number of the command fits the bytes it has.
unfoldable pub storable : Command → Bool
storable (Reading e) = nat_lt e.card (2 ^ 32) && (nat_lt e.serial (2 ^ 32) && (nat_lt e.time (2 ^ 64) && nat_lt e.amount (2 ^ 32)))
storable (Watermark m) = nat_lt m (2 ^ 64)

-- Terms and commands as bytes.
abbrev pub terms_bytes : Terms → List ℕ
terms_bytes t = bytes_of 8 t.gap ++ (bytes_of 8 t.lateness ++ bytes_of 8 t.day)

abbrev pub command_bytes : Command → List ℕ
command_bytes (Reading e) =
    0 ∷ (bytes_of 4 e.card ++ (bytes_of 4 e.serial ++ (bytes_of 8 e.time ++ bytes_of 4 e.amount)))
command_bytes (Watermark m) = 1 ∷ bytes_of 8 m

-- What is written is read again, whatever stands behind it.
pub record RoundTrip : Type 0 where
  pub terms : (t : Terms) (rest : List ℕ) → t.gap < 2 ^ 64 → t.lateness < 2 ^ 64 → t.day < 2 ^ 64 → terms_in (terms_bytes t ++ rest) ≡ Some t
  pub command : (c : Command) (rest : List ℕ) → storable c ≡ true → decoded (command_bytes c ++ rest) ≡ Some (c, length (command_bytes c))
  pub whole_file : (cs : List Command) → AllByRecursion (λ c. storable c ≡ true) cs → (commands (flat_map command_bytes cs) ≡ cs) × (unread (flat_map command_bytes cs) ≡ 0)

-- Nothing is lost: a command that is read is storable, and written again it is the bytes that were read.
pub record Lossless : Type 0 where
  pub command : (bs : List ℕ) (c : Command) (k : ℕ) → AllByRecursion (λ b. b < 256) bs → decoded bs ≡ Some (c, k) → (command_bytes c ≡ take k bs) × (storable c ≡ true)
  pub whole_file : (bs : List ℕ) → AllByRecursion (λ b. b < 256) bs → flat_map command_bytes (commands bs) ++ drop (length bs - unread bs) bs ≡ bs
