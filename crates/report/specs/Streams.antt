-- What is reported of a source that is read piece by piece, where its bytes are known.
use Rattle.std.specs.Prelude.{◌≡◌, ℕ, ◌+◌, ◌-◌, ◌^◌, ◌<◌, List, length, cond, None, Some, Ok, Err, Option, Result, ◌==◌}
use Rattle.std.specs.Io.KnownBytes.{Appends, Consumes}
use Rattle.visit.specs.declared.Terms.{Terms}
use Rattle.command.specs.declared.Command.{Command}
use Rattle.feed.specs.Files.{body, commands, terms_in, terms_size, unread}
use Rattle.feed.specs.declared.whole.FileError.TheVariants.{NoMemory, TooShort}
use Rattle.store.specs.declared.capacity.Capacity.{Capacity}
use Rattle.report.specs.SameText.{NoneWithheld}
use Rattle.report.specs.Pieces.{Continues}
use Rattle.report.specs.Texts.{recompute_text}
use Rattle.report.specs.declared.pieces.Reporting.{Reporting}
use Rattle.report.specs.declared.streams.StreamError.{StreamError}
use Rattle.report.specs.declared.streams.StreamError.TheVariants.{File, Io}

-- From one state to another so many bytes of a source are read and a text is written to an output.
pub record Advances {S : Type 0} (prints : S → List Command → List ℕ) (from : Reporting S) (source out : Option (List ℕ)) (n : ℕ) (rest after : Option (List ℕ)) (to : Reporting S) : Type 0 where
  pub read : List ℕ
  pub written : List ℕ
  pub consumes : Consumes source rest read
  pub appends : Appends out after written
  pub continues : Continues prints from read written to
  pub count : length read < 2 ^ 64 → n ≡ length read

-- At which byte of a file with these bytes behind its terms reading stops, if it does before the end.
abbrev pub stop_in : List ℕ → Option ℕ
stop_in bs = cond (unread bs == 0) None (Some (terms_size + (length bs - unread bs)))

-- Of pieces such an answer, or an error that says nothing of the file.
abbrev pub OfPieces : {A : Type 0} → (A → Type 0) → Result A StreamError → Type 0
OfPieces P (Ok a) = P a
OfPieces P (Err (File TooShort)) = ⊥
OfPieces P (Err (File NoMemory)) = Unit {0}
OfPieces P (Err (Io e)) = Unit {0}

-- Of a source that has terms, such an answer; else that it is too short for them. Other errors say nothing of it.
abbrev pub OfSource : {A : Type 0} → (List ℕ → A → Type 0) → Option (List ℕ) → Result A StreamError → Type 0
OfSource P None r = Unit {0}
OfSource P (Some file) (Ok a) = P file a
OfSource P (Some file) (Err (File TooShort)) = terms_in file ≡ None
OfSource P (Some file) (Err (File NoMemory)) = Unit {0}
OfSource P (Some file) (Err (Io e)) = Unit {0}

-- The text of the whole file was written, and it is said where reading it stopped.
abbrev pub Streamed : (Terms → List Command → List ℕ) → (file : List ℕ) → (before after : Option (List ℕ)) → (at : Option ℕ) → Type 0
Streamed text file before after at =
    (t : Terms) × (terms_in file ≡ Some t) × Appends before after (text t (commands (body file))) × (length file < 2 ^ 64 → at ≡ stop_in (body file))

-- The same by something that was made of the terms: the text is what that prints of the commands.
abbrev pub StreamedBy : {S : Type 0} → (Terms → S → Type 0) → (S → List Command → List ℕ) → (file : List ℕ) → (before after : Option (List ℕ)) → (at : Option ℕ) → Type 0
StreamedBy {S = S} made prints file before after at =
    (t : Terms) × (terms_in file ≡ Some t) × ((s : S) × made t s × Appends before after (prints s (commands (body file)))) × (length file < 2 ^ 64 → at ≡ stop_in (body file))

-- By a store: the text that recomputing prints was written, if no command of the file is refused with 1 or 7.
abbrev pub StreamedAsRecomputed : Capacity → (file : List ℕ) → (before after : Option (List ℕ)) → Type 0
StreamedAsRecomputed cap file before after =
    (t : Terms) → terms_in file ≡ Some t → NoneWithheld cap t (commands (body file)) → Appends before after (recompute_text t (commands (body file)))
