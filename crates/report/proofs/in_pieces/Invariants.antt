use Rattle.std.proofs.Common.{◌≡◌, ◌++◌, drop, string_bytes}
use Rattle.std.specs.List.{flat_map}
use Rattle.feed.specs.Files.{commands, unread}
use Rattle.report.specs.Pieces.{still_prints, still_unread}
use Rattle.report.proofs.in_pieces.Given as goal

-- The text so far, and what is printed if the other pieces come, are together the whole text.
abbrev pub invariant-loop-piece : goal.invariant-loop-piece
invariant-loop-piece g l = record {
  text : string_bytes l.text ++ still_prints g.S.Sessions.prints l.reporting (flat_map (λ p. p.now) (drop l.piece-index l.pieces)) ≡ g.S.Sessions.prints l.fn.sessions (commands (flat_map (λ p. p.now) l.pieces));
  rest : still_unread l.reporting (flat_map (λ p. p.now) (drop l.piece-index l.pieces)) ≡ unread (flat_map (λ p. p.now) l.pieces);
}
