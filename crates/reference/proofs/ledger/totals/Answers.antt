use Rattle.std.proofs.Common.{◌+◌, drop, vec_items, sym, refl, ap, ◌∙◌, arith}
use Rattle.std.proofs.lemmas.List.{at_drop_more, at_drop_all}
use Rattle.std.proofs.lemmas.List.Sums.{sum_by-drop_more}
use Rattle.visit.specs.declared.Line.{Line}
use Rattle.visit.specs.declared.Visit.{Visit}
use Rattle.visit.specs.Lines.{line_of}
use Rattle.model.specs.Ledger.{add_line, add_visits}
use Rattle.visit.specs.Sums.{line_sums, line_visits}
use Rattle.reference.proofs.Entries.{add_shares}
use Rattle.reference.proofs.ledger.totals.Goals as goal

none : Visit
none = record { card = 0; from = 0; to = 0; count = 0; sum = 0 }

pub add_to-requires : goal.add_to-requires
unfolding none line_of
add_to-requires c =
    record {
      visits = omega (arith, c.loop-visit.invariant.1, ap (λ (l : Line). l.visits) c.line.ensures);
      sum = omega (
        arith,
        c.loop-visit.invariant.2,
        ap (λ (l : Line). l.sum) c.line.ensures,
        sum_by-drop_more (λ (v : Visit). v.sum) c.args.visits.now c.loop-visit.visit-index none c.loop-visit-test.true,
      );
    }

pub loop-visit-preserved : goal.loop-visit-preserved
unfolding none line_of
loop-visit-preserved c =
    let vs = c.args.visits.now in
    let i = c.loop-visit.visit-index in
    let lines = vec_items c.loop-visit.lines in
    let more = c.in_ok-add_to.ensures in (
      ap (add_visits c.args.terms (drop (i + 1) vs)) (more ∙ ap (λ l. add_line c.args.terms l lines) c.line.ensures)
          ∙ sym (at_drop_more (λ ws. add_visits c.args.terms ws lines) vs i none c.loop-visit-test.true) ∙ c.loop-visit.invariant.0,
      omega (
        arith,
        c.loop-visit.invariant.1,
        ap line_visits more,
        ap (λ (l : Line). l.visits) c.line.ensures,
        add_shares (λ l. l.visits) (λ a b. refl) c.args.terms c.line.result lines,
      ),
      omega (
        arith,
        c.loop-visit.invariant.2,
        ap line_sums more,
        ap (λ (l : Line). l.sum) c.line.ensures,
        add_shares (λ l. l.sum) (λ a b. refl) c.args.terms c.line.result lines,
        sum_by-drop_more (λ (v : Visit). v.sum) vs i none c.loop-visit-test.true,
      ),
    )

pub returns : goal.returns
returns c = sym (at_drop_all (λ vs. add_visits c.args.terms vs (vec_items c.loop-visit.lines)) c.args.visits.now c.loop-visit.visit-index c.loop-visit-test.false) ∙ c.loop-visit.invariant.0
