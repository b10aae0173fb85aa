-- What is packed and unpacked again is the same day, written plainly.
use Rattle.std.specs.Prelude.{◌≡◌, ℕ, List, Some, Ok}
use Rattle.std.specs.List.{AllByRecursion}
use Rattle.visit.specs.declared.Terms.{Terms}
use Rattle.command.specs.declared.Command.{Command}
use Rattle.days.specs.Parsing.{parsed_day}
use Rattle.days.specs.RoundTrip.{CommandFits, TermsFit}
use Rattle.days.specs.Writing.{day_text}
use Rattle.feed.specs.Files.{body, commands, terms_in, unread}
use Rattle.convert.specs.Packing.{file_of, packed}
use Rattle.convert.specs.Unpacking.{unpacked}

-- The file of a day says that day and no more; its text is the day written plainly, which is read as that day again.
pub record DayKept (t : Terms) (cs : List Command) : Type 0 where
  pub terms : terms_in (file_of t cs) ≡ Some t
  pub same_commands : commands (body (file_of t cs)) ≡ cs
  pub all_read : unread (body (file_of t cs)) ≡ 0
  pub text : unpacked (file_of t cs) ≡ Some (day_text t cs, 0)
  pub read_again : parsed_day (day_text t cs) ≡ Ok (t, cs)

-- So it is for a day whose numbers fit, for every day that a text says, and hence for every text that can be packed.
pub record RoundTrip : Type 0 where
  pub day : (t : Terms) (cs : List Command) → TermsFit t → AllByRecursion CommandFits cs → DayKept t cs
  pub fits : (text : List ℕ) (t : Terms) (cs : List Command) → parsed_day text ≡ Ok (t, cs) → TermsFit t × AllByRecursion CommandFits cs
  pub text : (text file : List ℕ) → packed text ≡ Ok file → (plain : List ℕ) × (unpacked file ≡ Some (plain, 0)) × (parsed_day plain ≡ parsed_day text)
