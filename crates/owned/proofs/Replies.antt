-- From a reply and the row of changes back to the outcome.
use Rattle.std.proofs.Common.{◌≡◌, ℕ, List, sym, refl, ap, ◌∙◌, subst, arith}
use Rattle.command.specs.Numbers.{Reply}
use Rattle.command.specs.Outcomes.{Outcome, changed, refused, reply_of}
use Rattle.changes.specs.Out.{outcome_row, overlay}
use Rattle.rows.specs.Out.{new_in}
use Rattle.store.proofs.Ending.{gone_read, new_read, row_within}
use Rattle.owned.specs.Replies.{Readable, outcome_from}

pub record Means (r : Reply) (row : List ℕ) (o : Outcome) : Type 0 where
  pub readable : Readable r row
  pub outcome : outcome_from r row ≡ o

by_outcome : (o : Outcome) (was row : List ℕ) → row ≡ overlay (outcome_row o) was → Means (reply_of o) row o
by_outcome (refused f) was row written = record { readable = tt; outcome = refl }
by_outcome (changed gone new) was row written =
    record {
      readable = (omega (arith, row_within gone new was row written), row_within gone new was row written);
      outcome = ap (λ l. changed l (new_in row)) (gone_read gone new was row written) ∙ ap (changed gone) (new_read gone new was row written);
    }

pub means : (o : Outcome) (r : Reply) (was row : List ℕ) → r ≡ reply_of o → row ≡ overlay (outcome_row o) was → Means r row o
means o r was row reply written = subst (λ (x : Reply). Means x row o) (sym reply) (by_outcome o was row written)
