-- What is packed and unpacked again is the same day.
use Rattle.std.proofs.Common.{◌≡◌, ℕ, List, Some, Ok, Err, sym, refl, ap, ◌∙◌}
use Rattle.std.specs.List.{flat_map, AllByRecursion}
use Rattle.visit.specs.declared.Terms.{Terms}
use Rattle.command.specs.declared.Command.{Command}
use Rattle.feed.specs.Files.{body, command_bytes, commands, terms_in, unread}
use Rattle.feed.proofs.Encoding.{body_back, round_trip}
use Rattle.days.specs.Parsing.{parsed_day, then}
use Rattle.days.specs.RoundTrip.{CommandFits, TermsFit}
use Rattle.days.specs.Writing.{day_text}
use Rattle.days.proofs.RoundTrip.{parses_back}
use Rattle.convert.specs.Packing.{file_of, packed}
use Rattle.convert.specs.RoundTrip.{DayKept, RoundTrip}
use Rattle.convert.specs.Unpacking.{unpacked}
use Rattle.convert.proofs.Fits.{all_stored, text_fits}

-- what stands behind the terms
body_of : (t : Terms) (cs : List Command) → body (file_of t cs) ≡ flat_map command_bytes cs
body_of t cs = body_back t (flat_map command_bytes cs)

day_kept : (t : Terms) (cs : List Command) → TermsFit t → AllByRecursion CommandFits cs → DayKept t cs
day_kept t cs f g =
    let back = round_trip.whole_file cs (all_stored cs g) in
    let p : terms_in (file_of t cs) ≡ Some t = round_trip.terms t (flat_map command_bytes cs) f.0 f.1 f.2 in
    let q : commands (body (file_of t cs)) ≡ cs = ap commands (body_of t cs) ∙ back.0 in
    let r : unread (body (file_of t cs)) ≡ 0 = ap unread (body_of t cs) ∙ back.1 in
    record {
      terms = p;
      same_commands = q;
      all_read = r;
      text = cc (p, q, r);
      read_again = parses_back t cs f g;
    }

-- a text that is packed says a day
text_kept : (text file : List ℕ) → packed text ≡ Ok file → (plain : List ℕ) × (unpacked file ≡ Some (plain, 0)) × (parsed_day plain ≡ parsed_day text)
text_kept text file e =
    elim (parsed_day text) as (λ r. parsed_day text ≡ r → then r (λ d. Ok (file_of d.0 d.1)) ≡ Ok file → (plain : List ℕ) × (unpacked file ≡ Some (plain, 0)) × (parsed_day plain ≡ parsed_day text)) [
      | Ok d ↦ λ says packs.
          let fit = text_fits text d.0 d.1 says in
          let k = day_kept d.0 d.1 fit.0 fit.1 in
          let same : file_of d.0 d.1 ≡ file = cc packs in
          (day_text d.0 d.1, ap unpacked (sym same) ∙ k.text, k.read_again ∙ sym says)
      | Err b ↦ λ says packs. cc
    ] refl e

pub kept_whole : RoundTrip
kept_whole = record { day = day_kept; fits = text_fits; text = text_kept }
