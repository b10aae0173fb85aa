-- What one command more prints.
use Rattle.std.proofs.Common.{◌≡◌, ℕ, List, ◌∷◌, ◌++◌, IfOk, Ok, Err, Result, ◌∙◌}
use Rattle.std.specs.List.{flat_map}
use Rattle.std.proofs.lemmas.List.{append_assoc}
use Rattle.visit.specs.declared.Terms.{Terms}
use Rattle.command.specs.declared.Command.{Command}
use Rattle.command.specs.Outcomes.{Outcome}
use Rattle.model.specs.Reference.{Reference, bounded_after, bounded_outcomes, bounded_plan, ledger_of, outcome_by, state_by}
use Rattle.feed.specs.Files.{body, commands}
use Rattle.feed.specs.Text.{ledger_text, outcome_text}
use Rattle.feed.specs.declared.whole.FileError.{FileError}
use Rattle.feed.specs.declared.whole.FileError.TheVariants.{NoMemory, TooShort}
use Rattle.feed.specs.declared.whole.FileText.{FileText}
use Rattle.report.specs.Texts.{reference_prints}
use Rattle.report.specs.Whole.{Reported, ReportedBy}

pub prints_more : (t u : Terms) (k j : Reference) (o : Outcome) (c : Command) (cs : List Command) → u ≡ t → o ≡ outcome_by t k (bounded_plan t k c)
    → j ≡ state_by k (bounded_plan t k c) → reference_prints t k (c ∷ cs) ≡ outcome_text o ++ reference_prints u j cs
prints_more t u k j o c cs p q r =
    rw (p, q, r)
    (append_assoc (outcome_text (outcome_by t k (bounded_plan t k c))) (flat_map outcome_text (bounded_outcomes t (state_by k (bounded_plan t k c)) cs))
    (ledger_text (ledger_of t (bounded_after t (state_by k (bounded_plan t k c)) cs))))

-- A report by what was made of the terms, where that prints a text that is known by the terms.
pub reported_by :
    {S : Type 0} (made : Terms → S → Type 0) (prints : S → List Command → List ℕ) (text : Terms → List Command → List ℕ) (file : List ℕ) (o : Result FileText FileError)
    → ((t : Terms) (s : S) (cs : List Command) → made t s → prints s cs ≡ text t cs) → ReportedBy made prints file o → Reported text file o
reported_by made prints text file (Err TooShort) same r = r
reported_by made prints text file (Err NoMemory) same r = tt
reported_by made prints text file (Ok p) same r = (r.0, r.1, r.2.2 ∙ same r.0 r.2.0 (commands (body file)) r.2.1, r.3)

-- Two facts of what was made give a third.
pub made_both : {X Y : Type 0} (r : Result X Y) (P Q R : X → Type 0) → IfOk r P → IfOk r Q → ((x : X) → P x → Q x → R x) → IfOk r R
made_both (Ok x) P Q R p q f = f x p q
made_both (Err y) P Q R p q f = tt
