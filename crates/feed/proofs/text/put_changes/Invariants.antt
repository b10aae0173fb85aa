use Rattle.std.proofs.Common.{◌≡◌, ◌++◌, take, string_bytes}
use Rattle.feed.specs.Text.{changes_text}
use Rattle.feed.proofs.text.put_changes.Given as goal

abbrev pub invariant-loop-visit : goal.invariant-loop-visit
invariant-loop-visit l = string_bytes l.text ≡ string_bytes l.initial.text ++ changes_text l.sign (take l.visit-index l.visits)
