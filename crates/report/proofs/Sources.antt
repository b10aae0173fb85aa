-- What reads and writes do, one after the other.
use Rattle.std.proofs.Common.{◌≡◌, ℕ, ◌+◌, ◌-◌, ◌^◌, ◌<◌, ◌≤◌, min, eqb, ltb, cond, List, [], ◌++◌, length, take, IfSome, None, Some, Option, Ok, Err, Result, append-nil, refl, sym, ap, ◌∙◌, subst, append_assoc, arith, length-append, length-drop, length-take-le}
use Rattle.std.proofs.lemmas.List.{drop_at, take-append-le}
use Rattle.std.proofs.lemmas.Bool.Decides.{nat_tests}
use Rattle.std.proofs.KnownBytes.{Appends-nil, Appends-trans, Consumes-nil, Consumes-trans}
use Rattle.std.specs.Bool.{then_some}
use Rattle.std.specs.Io.KnownBytes.{Appends, Consumes, IsAtEnd}
use Rattle.std.proofs.Math.Seq.{take-append-add}
use borrow.Rule.Slice.PartMut.{put_mid, post_of}
use Rattle.command.specs.declared.Command.{Command}
use Rattle.feed.specs.Files.{body, commands, terms_in, unread}
use Rattle.feed.specs.declared.whole.FileError.TheVariants.{NoMemory, TooShort}
use Rattle.feed.proofs.Cutting.{terms_long, terms_more, terms_short}
use Rattle.feed.proofs.Decoding.{unread_bound}
use Rattle.visit.specs.declared.Terms.{Terms}
use Rattle.report.specs.Pieces.{Continues, Unreadable, still_prints, still_unread}
use Rattle.report.specs.Streams.{Advances, OfPieces, OfSource, Streamed, StreamedBy, stop_in}
use Rattle.report.specs.declared.streams.StreamError.{StreamError}
use Rattle.report.specs.declared.streams.StreamError.TheVariants.{File, Io}
use Rattle.report.specs.declared.pieces.Reporting.{Reporting}

-- The first bytes of a buffer whose part from n on was read into: those that stood before, then what was read.
filled_more : (n k m : ℕ) (buffer part : List ℕ) → n ≤ length buffer → m ≤ length part → take (n + m) (put_mid n k buffer part) ≡ take n buffer ++ take m part
filled_more n k m buffer part within fits =
    let long = length-take-le n buffer within in
    ap (λ i. take (i + m) (put_mid n k buffer part)) (sym long)
    ∙ take-append-add (take n buffer) (part ++ post_of n k buffer) m
    ∙ ap (λ bs. take n buffer ++ bs) (take-append-le m part (post_of n k buffer) fits)

pub fills_more : (source rest end : Option (List ℕ)) (n k m : ℕ) (buffer part : List ℕ) → n ≤ length buffer → m ≤ length part
    → Consumes source rest (take n buffer) → Consumes rest end (take m part) → Consumes source end (take (n + m) (put_mid n k buffer part))
fills_more source rest end n k m buffer part within fits first then =
    subst (Consumes source end) (sym (filled_more n k m buffer part within fits)) (Consumes-trans source rest end _ _ first then)

-- Nothing read and nothing written.
pub advances_none : {S : Type 0} (prints : S → List Command → List ℕ) (r : Reporting S) (source out : Option (List ℕ)) → Advances prints r source out 0 source out r
advances_none prints r source out = record {
  read = [];
  written = [];
  consumes = Consumes-nil source;
  appends = Appends-nil out;
  continues = record { text = λ more. refl; rest = λ more. refl };
  count = λ h. refl;
}

continues_more : {S : Type 0} (prints : S → List Command → List ℕ) (r s t : Reporting S) (first then front back : List ℕ)
    → Continues prints r first front s → Continues prints s then back t → Continues prints r (first ++ then) (front ++ back) t
continues_more prints r s t first then front back a b = record {
  text = λ more.
      append_assoc front back _
      ∙ ap (λ bs. front ++ bs) (b.text more)
      ∙ a.text (then ++ more)
      ∙ ap (still_prints prints r) (sym (append_assoc first then more));
  rest = λ more. b.rest more ∙ a.rest (then ++ more) ∙ ap (still_unread r) (sym (append_assoc first then more));
}

-- One way after the other.
pub advances_more : {S : Type 0} (prints : S → List Command → List ℕ) (r s t : Reporting S) (source out rest after end last : Option (List ℕ)) (m n k : ℕ)
    → Advances prints r source out m rest after s → Advances prints s rest after n end last t → (m + n < 2 ^ 64 → k ≡ m + n) → Advances prints r source out k end last t
advances_more prints r s t source out rest after end last m n k a b sum = record {
  read = a.read ++ b.read;
  written = a.written ++ b.written;
  consumes = Consumes-trans source rest end a.read b.read a.consumes b.consumes;
  appends = Appends-trans out after last a.written b.written a.appends b.appends;
  continues = continues_more prints r s t a.read b.read a.written b.written a.continues b.continues;
  count = λ h.
      let long = length-append a.read b.read in
      let first : m ≡ length a.read = a.count (omega arith) in
      let more : n ≡ length b.read = b.count (omega arith) in
      let all : k ≡ m + n = sum (omega arith) in
      omega arith;
}

-- What is left of the bytes read tells what is left of all, and where the others end.
stop_same : (u y n all rest : ℕ) → (u ≡ 0 → y ≡ 0) → rest ≡ u + y → all ≡ n + y → u ≤ n → 24 + all < 2 ^ 64
    → then_some (ltb 0 u) (min (n + 24) (2 ^ 64 - 1) - u) ≡ cond (eqb rest 0) None (Some (24 + (all - rest)))
stop_same u y n all rest none r a within small = grind (arith, nat_tests)

-- The bytes of a source that is known: what was written of those read is what is printed of all.
pub streamed : {S : Type 0} (prints : S → List Command → List ℕ) (s : S) (from to : Reporting S) (source out rest after last : Option (List ℕ)) (n u : ℕ) (at : Option ℕ)
    → ((more : List ℕ) → still_prints prints from more ≡ prints s (commands more)) → ((more : List ℕ) → still_unread from more ≡ unread more)
    → Advances prints from source out n rest after to → IfSome rest (Unreadable prints to)
    → Appends after last (still_prints prints to []) → u ≡ still_unread to []
    → at ≡ then_some (ltb 0 u) (min (n + 24) (2 ^ 64 - 1) - u)
    → IfSome source (λ bs. Appends out last (prints s (commands bs)) × (24 + length bs < 2 ^ 64 → at ≡ stop_in bs))
streamed prints s from to None out rest after last n u at text tail way end put left said = tt
streamed prints s from to (Some bs) out None after last n u at text tail way end put left said = absurd way.consumes
streamed prints s from to (Some bs) out (Some ys) after last n u at text tail way end put left said =
    let whole : bs ≡ way.read ++ ys = way.consumes in
    let all : way.written ++ still_prints prints to [] ≡ prints s (commands bs) =
    ap (λ t. way.written ++ t) (sym end.text) ∙ way.continues.text ys ∙ text (way.read ++ ys) ∙ ap (λ l. prints s (commands l)) (sym whole) in
    let rest : unread bs ≡ u + length ys = ap unread whole ∙ sym (tail (way.read ++ ys)) ∙ sym (way.continues.rest ys) ∙ end.rest ∙ ap (λ k. k + length ys) (sym left) in
    let long : length bs ≡ length way.read + length ys = ap length whole ∙ length-append way.read ys in
    let now : u ≡ unread way.read = left ∙ way.continues.rest [] ∙ tail (way.read ++ []) ∙ ap unread (append-nil way.read) in
    let within = unread_bound way.read in (
      subst (Appends out last) all (Appends-trans out after last way.written _ way.appends put),
      λ h. let count : n ≡ length way.read = way.count (omega arith) in
          said ∙ stop_same u (length ys) n (length bs) (unread bs) (λ z. ap length (end.none (sym left ∙ z))) rest (long ∙ ap (λ k. k + length ys) (sym count)) (omega arith) h,
    )

-- The first bytes of a source are too few for terms, or they are the terms and the rest is behind them.
pub front_short : {A : Type 0} (P : List ℕ → A → Type 0) (source rest : Option (List ℕ)) (front : List ℕ) → Consumes source rest front → (length front < 24 → IsAtEnd rest)
    → terms_in front ≡ None → OfSource P source (Err (File TooShort))
front_short P None rest front read end none = tt
front_short P (Some file) None front read end none = absurd read
front_short P (Some file) (Some ys) front read end none =
    ap terms_in (read ∙ ap (λ l. front ++ l) (end (terms_short front none)) ∙ append-nil front) ∙ none

pub front_known : (source rest : Option (List ℕ)) (front : List ℕ) (t : Terms) → Consumes source rest front → length front ≡ 24
    → terms_in front ≡ Some t → OfSource (λ file u. (terms_in file ≡ Some u) × (rest ≡ Some (body file))) source (Ok t)
front_known None rest front t read long is = tt
front_known (Some file) None front t read long is = absurd read
front_known (Some file) (Some ys) front t read long is =
    (ap terms_in read ∙ terms_more front ys (omega arith) ∙ is, ap (λ l. Some l) (sym (ap body read ∙ drop_at front ys 24 long)))

-- So where its first bytes are the terms.
pub streamed_by : {S : Type 0} (made : Terms → S → Type 0) (prints : S → List Command → List ℕ) (source rest out last : Option (List ℕ)) (t : Terms) (s : S) (r : Result (Option ℕ) StreamError)
    → OfSource (λ file u. (terms_in file ≡ Some u) × (rest ≡ Some (body file))) source (Ok t) → made t s
    → OfPieces (λ at. IfSome rest (λ bs. Appends out last (prints s (commands bs)) × (24 + length bs < 2 ^ 64 → at ≡ stop_in bs))) r
    → OfSource (λ file. StreamedBy made prints file out last) source r
streamed_by made prints None rest out last t s r front m p = tt
streamed_by made prints (Some file) rest out last t s (Err (Io e)) front m p = tt
streamed_by made prints (Some file) rest out last t s (Err (File NoMemory)) front m p = tt
streamed_by made prints (Some file) rest out last t s (Err (File TooShort)) front m p = absurd p
streamed_by made prints (Some file) rest out last t s (Ok at) front m p =
    let q = subst (λ (o : Option (List ℕ)). IfSome o (λ bs. Appends out last (prints s (commands bs)) × (24 + length bs < 2 ^ 64 → at ≡ stop_in bs))) front.1 p in
    let enough = terms_long file t front.0 in
    (t, front.0, (s, m, q.0), λ h. q.1 (omega (arith, length-drop 24 file)))

-- And where what was made of the terms prints a text that is known by the terms.
pub streamed_text : {S : Type 0} (made : Terms → S → Type 0) (prints : S → List Command → List ℕ) (text : Terms → List Command → List ℕ) (source out last : Option (List ℕ)) (r : Result (Option ℕ) StreamError)
    → ((t : Terms) (s : S) (cs : List Command) → made t s → prints s cs ≡ text t cs) → OfSource (λ file. StreamedBy made prints file out last) source r → OfSource (λ file. Streamed text file out last) source r
streamed_text made prints text None out last r same p = tt
streamed_text made prints text (Some file) out last (Err (Io e)) same p = tt
streamed_text made prints text (Some file) out last (Err (File NoMemory)) same p = tt
streamed_text made prints text (Some file) out last (Err (File TooShort)) same p = p
streamed_text made prints text (Some file) out last (Ok at) same p =
    (p.0, p.1, subst (Appends out last) (same p.0 p.2.0 (commands (body file)) p.2.1) p.2.2, p.3)
