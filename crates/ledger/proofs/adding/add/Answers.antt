use Rattle.std.proofs.Common.{◌≡◌, ◌≤◌, set, sym, ap, ◌∙◌, arith}
use Rattle.std.specs.List.{insert, slice_get}
use Rattle.std.proofs.lemmas.Option.{get_or_from_slice_get, slice_get_within}
use Rattle.model.specs.Ledger.{add_line}
use Rattle.rows.specs.Tables.{rows_of, rows_seen}
use Rattle.rows.proofs.Becoming.{becomes_as, len_inserted, len_put, length_of}
use Rattle.ledger.proofs.Entries.{add_between, add_last, add_place, add_to, none_there}
use Rattle.ledger.proofs.adding.add.Goals as goal
use Rattle.ledger.proofs.adding.add.Goals.{After-get, in_default-via-in-Some+else-same_key, in_default-via-in_default}

-- The place is that of the line, and the row looked at is the line there, if there is one.
placed : (c : After-get) → c.place-at.result ≡ add_place c.args.terms c.args.line (rows_of c.args.table.now)
placed c = let seen : rows_seen c.rows-rows.result ≡ rows_of c.args.table.now = cc in c.place-at.ensures.before ∙ ap (add_place c.args.terms c.args.line) seen

looked_at : (c : After-get) → slice_get (rows_of c.args.table.now) c.place-at.result ≡ c.get.result
looked_at c = let seen : rows_seen c.rows-rows.result ≡ rows_of c.args.table.now = cc in sym (c.get.ensures ∙ ap (λ ls. slice_get ls c.place-at.result) seen)

pub put-requires : goal.put-requires
put-requires c =
    let ls = rows_of c.args.table.now in
    omega (arith, slice_get_within ls c.place-at.result c.in-Some.found (looked_at (goal.at.put-requires c).After-get ∙ c.in-Some.is), length_of c.args.table.now)

pub returns-in-Some : goal.returns-in-Some
returns-in-Some c =
    let t = c.args.table.now in
    let ls = rows_of t in
    let at = c.place-at.result in
    let found = c.in-Some.found in
    let read = looked_at (goal.at.returns-in-Some c).After-get ∙ c.in-Some.is in
    let inside = slice_get_within ls at found read in
    let added : set ls at c.plus.result ≡ add_line c.args.terms c.args.line ls =
    ap (set ls at) c.plus.ensures
    ∙ sym (add_to c.args.terms c.args.line ls at found inside (sym (get_or_from_slice_get ls at found found read)) (placed (goal.at.returns-in-Some c).After-get) (sym c.if-same_key.ensures)) in
    let len = len_put at c.plus.result c.put.ensures.after in
    record { after = becomes_as c.put.ensures.after (omega (arith, len)) added }

pub returns-in_default : goal.returns-in_default
returns-in_default c =
    let t = c.args.table.now in
    let ls = rows_of t in
    let at = c.place-at.result in
    let read = looked_at (goal.at.returns-in_default c).After-get in
    let place = placed (goal.at.returns-in_default c).After-get in
    let added : insert ls at c.args.line ≡ add_line c.args.terms c.args.line ls =
    sym (elim c.in_default.branch [
      | in_default-via-in-Some+else-same_key w ↦
          let here = read ∙ w.in-Some.is in
          add_between c.args.terms c.args.line ls at w.in-Some.found (slice_get_within ls at w.in-Some.found here) (sym (get_or_from_slice_get ls at w.in-Some.found w.in-Some.found here)) place (sym w.if-same_key.ensures)
      | in_default-via-in_default w ↦ add_last c.args.terms c.args.line ls at place (none_there ls at (read ∙ w.in_default.is))
    ]) in
    let within : at ≤ t.len = omega (arith, c.place-at.ensures.within, c.rows-rows.ensures.len) in
    let len = len_inserted at c.args.line within c.insert.ensures.after in
    record { after = becomes_as c.insert.ensures.after (omega (arith, len)) added }
