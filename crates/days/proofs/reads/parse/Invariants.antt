use Rattle.std.proofs.Common.{◌≡◌, ◌+◌, ◌≤◌, length, vec_items}
use Rattle.days.specs.Parsing.{parsed_day}
use Rattle.days.specs.Words.{lines}
use Rattle.days.proofs.Steps.{behind, left}
use Rattle.days.proofs.reads.parse.Given as goal

-- What is read already, and the lines that are left, say the day.
abbrev pub invariant-loop-content : goal.invariant-loop-content
invariant-loop-content l = record {
  day : behind (vec_items l.commands) (left l.terms l.line (lines l.content-iterator.rest.now)) ≡ parsed_day l.text;
  counted : l.line + length l.content-iterator.rest.now ≤ length l.text + 1;
}
