-- The text of a command file.
use Rattle.std.specs.Prelude.{ℕ, List, string_bytes, Option}
use Rattle.std.specs.Option.{option_map}
use Rattle.days.specs.Writing.{day_text}
use Rattle.feed.specs.Files.{body, commands, terms_in, unread}
use Rattle.feed.specs.declared.whole.FileText.{FileText}

-- The text of the commands that can be read, and how many bytes at the end cannot. None if the file is shorter than its terms.
abbrev pub unpacked : List ℕ → Option (List ℕ × ℕ)
unpacked file = option_map (λ t. (day_text t (commands (body file)), unread (body file))) (terms_in file)

-- An owned answer as such a pair.
abbrev pub contents : FileText → List ℕ × ℕ
contents u = (string_bytes u.text, u.unread)
