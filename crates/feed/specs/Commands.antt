-- The commands of a file as an iterator, and one step of it.
use Rattle.std.specs.Prelude.{◌≡◌, ℕ, ◌-◌, ◌<◌, List, [], ◌∷◌, length, drop, Some, Option, MatchOption}
use Rattle.command.specs.declared.Command.{Command}
use Rattle.feed.specs.declared.files.Commands.{Commands}
use Rattle.feed.specs.Files.{commands, decoded, unread}

-- The bytes that are still to be read.
abbrev pub bytes_left : Commands → List ℕ
bytes_left found = found.rest.now

-- The commands that are still to come.
abbrev pub commands_left : Commands → List Command
commands_left found = commands (bytes_left found)

-- The bytes begin with a command, and the rest stands behind it.
pub record IsFront (bs : List ℕ) (c : Command) (rest : List ℕ) : Type 0 where
  pub command : decoded bs ≡ Some (c, length bs - length rest)
  pub behind : rest ≡ drop (length bs - length rest) bs
  pub shorter : length rest < length bs

-- A call of `next` gave the first command and left the others; or it gave none where there was none, and took no byte.
-- How many bytes will be left in the end stays the same.
abbrev pub StepsOn : Commands → Option Command → Commands → Type 0
StepsOn found r after =
    MatchOption r
    ((commands_left found ≡ []) × (unread (bytes_left found) ≡ length (bytes_left found)) × (bytes_left after ≡ bytes_left found))
    (λ c. (commands_left found ≡ c ∷ commands_left after) × (unread (bytes_left found) ≡ unread (bytes_left after)) × IsFront (bytes_left found) c (bytes_left after))
