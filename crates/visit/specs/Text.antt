-- How terms, readings, visits and lines are written: decimal numbers, single spaces.
use Rattle.std.specs.Prelude.{◌≡◌, ℕ, List, ◌++◌, codes, decimal, OnOk, Result, String, string_bytes}
use Rattle.std.specs.declared.alloc.Global.{Global}
use Rattle.visit.specs.declared.Line.{Line}
use Rattle.visit.specs.declared.Reading.{Reading}
use Rattle.visit.specs.declared.Terms.{Terms}
use Rattle.visit.specs.declared.Visit.{Visit}

abbrev pub terms_text : Terms → List ℕ
terms_text t = decimal t.gap ++ (codes " " ++ (decimal t.lateness ++ (codes " " ++ decimal t.day)))

abbrev pub reading_text : Reading → List ℕ
reading_text e =
    decimal e.card ++ (codes " " ++ (decimal e.time ++ (codes " " ++ (decimal e.serial ++ (codes " " ++ decimal e.amount)))))

abbrev pub visit_text : Visit → List ℕ
visit_text v =
    decimal v.card
    ++ (codes " "
    ++ (decimal v.from
    ++ (codes " " ++ (decimal v.to ++ (codes " " ++ (decimal v.count ++ (codes " " ++ decimal v.sum)))))))

abbrev pub line_text : Line → List ℕ
line_text l =
    codes "card "
    ++ (decimal l.card
    ++ (codes " day " ++ (decimal l.day ++ (codes " visits " ++ (decimal l.visits ++ (codes " sum " ++ decimal l.sum))))))

-- More is put behind a text. Of a failure nothing is said.
abbrev pub Puts : {T E : Type 0} → Result T E → (before : String Global) → (more : List ℕ) → (after : String Global) → Type 0
Puts r before more after = OnOk r (string_bytes after ≡ string_bytes before ++ more)
