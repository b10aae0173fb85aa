-- What is reported of a whole file.
use Rattle.std.specs.Prelude.{◌≡◌, ℕ, List, IfOk, Some, string_bytes, Result}
use Rattle.visit.specs.declared.Terms.{Terms}
use Rattle.command.specs.declared.Command.{Command}
use Rattle.feed.specs.Files.{body, commands, terms_in, unread}
use Rattle.store.specs.declared.capacity.Capacity.{Capacity}
use Rattle.feed.specs.Whole.{OfFile}
use Rattle.feed.specs.declared.whole.FileError.{FileError}
use Rattle.feed.specs.declared.whole.FileText.{FileText}
use Rattle.report.specs.SameText.{NoneWithheld}
use Rattle.report.specs.Texts.{recompute_text}

-- There is no report if the file is shorter than its terms. Else it has the text of the commands that can be read,
-- and how many bytes at the end cannot.
abbrev pub Reported : (Terms → List Command → List ℕ) → List ℕ → Result FileText FileError → Type 0
Reported text file r =
    OfFile (λ p. (t : Terms) × (terms_in file ≡ Some t) × (string_bytes p.text ≡ text t (commands (body file))) × (p.unread ≡ unread (body file))) file r

-- The same of a report by something that was made of the terms: the text is what that prints of the commands.
abbrev pub ReportedBy : {S : Type 0} → (Terms → S → Type 0) → (S → List Command → List ℕ) → List ℕ → Result FileText FileError → Type 0
ReportedBy {S = S} made prints file r =
    OfFile (λ p. (t : Terms) × (terms_in file ≡ Some t) × ((s : S) × made t s × (string_bytes p.text ≡ prints s (commands (body file)))) × (p.unread ≡ unread (body file))) file r

-- Of a report by a store: it has the text that recomputing prints, if no command of the file is refused with 1 or 7.
abbrev pub AsRecomputed : Capacity → List ℕ → Result FileText FileError → Type 0
AsRecomputed cap file r =
    IfOk r (λ p. (t : Terms) → terms_in file ≡ Some t → NoneWithheld cap t (commands (body file)) → string_bytes p.text ≡ recompute_text t (commands (body file)))
