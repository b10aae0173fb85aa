use Rattle.std.proofs.Common.{◌≡◌, ◌++◌, take, string_bytes}
use Rattle.feed.specs.Text.{ledger_text}
use Rattle.feed.proofs.text.put_ledger.Given as goal

abbrev pub invariant-loop-line : goal.invariant-loop-line
invariant-loop-line l = string_bytes l.text ≡ string_bytes l.initial.text ++ ledger_text (take l.line-index l.lines)
