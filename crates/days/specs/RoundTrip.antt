-- What is written of a day is read back as that day.
use Rattle.std.specs.Prelude.{◌≡◌, ◌<◌, List, Ok}
use Rattle.std.specs.List.{AllByRecursion}
use Rattle.visit.specs.declared.Terms.{Terms}
use Rattle.command.specs.declared.Command.{Command}
use Rattle.command.specs.declared.Command.TheVariants.{Reading, Watermark}
use Rattle.command.specs.Bounds.{word_limit}
use Rattle.days.specs.Numbers.{number_limit}
use Rattle.days.specs.Parsing.{parsed_day}
use Rattle.days.specs.Writing.{day_text}

abbrev pub TermsFit : Terms → Type 0
TermsFit t = (t.gap < number_limit) × (t.lateness < number_limit) × (t.day < number_limit)

abbrev pub CommandFits : Command → Type 0
CommandFits (Reading e) = (e.card < word_limit) × (e.time < number_limit) × (e.serial < word_limit) × (e.amount < word_limit)
CommandFits (Watermark m) = m < number_limit

abbrev pub ParsesBack : Type 0
ParsesBack = (t : Terms) (cs : List Command) → TermsFit t → AllByRecursion CommandFits cs → parsed_day (day_text t cs) ≡ Ok (t, cs)
