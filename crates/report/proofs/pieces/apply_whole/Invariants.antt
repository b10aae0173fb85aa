use Rattle.std.proofs.Common.{◌≡◌, ℕ, List, ◌++◌, string_bytes}
use Rattle.feed.specs.Commands.{bytes_left}
use Rattle.feed.specs.Files.{commands, unread}
use Rattle.report.proofs.Cutting.{IsTail}
use Rattle.report.proofs.pieces.apply_whole.Given as goal

-- However the bytes go on, the text so far and what is printed of the rest are together the whole text.
abbrev pub invariant-loop-command : goal.invariant-loop-command
invariant-loop-command g l = record {
  text : (more : List ℕ) → string_bytes l.text ++ g.S.Sessions.prints l.sessions (commands (bytes_left l.commands ++ more)) ≡ string_bytes l.initial.text ++ g.S.Sessions.prints l.initial.sessions (commands (l.bytes ++ more));
  rest : (more : List ℕ) → unread (bytes_left l.commands ++ more) ≡ unread (l.bytes ++ more);
  tail : IsTail l.bytes (bytes_left l.commands);
}
