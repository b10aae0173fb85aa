-- Where a line of the ledger is found.
use Rattle.std.specs.Prelude.{ℕ, List, Option}
use Rattle.std.specs.List.{position}
use Rattle.visit.specs.declared.Line.{Line}
use Rattle.visit.specs.declared.Terms.{Terms}
use Rattle.visit.specs.Lines.{same_key}

-- The place of the first line with the key of l, if there is one.
unfoldable pub first_of_key : Terms → Line → List Line → Option ℕ
first_of_key t l ls = position (λ x. same_key t x l) ls
