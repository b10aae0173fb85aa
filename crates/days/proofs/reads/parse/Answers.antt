use Rattle.std.proofs.Common.{◌≡◌, ℕ, map, length, eqb, vec_items, Some, None, Ok, Err, sym, ap, ◌∙◌, arith, rules, tests}
use Rattle.std.proofs.lemmas.List.{length-append, length-map}
use Rattle.std.proofs.lemmas.Result.{err_from_is_err_and}
use Rattle.days.specs.declared.Reason.TheVariants.{NoTerms}
use Rattle.days.specs.Parsing.{at_line, parsed_command, parsed_terms}
use Rattle.days.proofs.Splitting.{line_taken}
use Rattle.days.proofs.Steps.{Turn, bad_command, bad_terms, good_command, good_terms, ended_none, ended_some, turn_blank}
use Rattle.days.proofs.reads.parse.Goals as goal
use Rattle.days.proofs.reads.parse.Goals.{After-is_empty, In_ok-words, then-not-is_empty+in-None-terms+in_ok-map_err-in-None-terms, then-not-is_empty+in-Some-terms+in_ok-map_err-in-Some-terms+in_ok-push-in-Some-terms, else-not-is_empty}

turn : (c : In_ok-words) → Turn c.loop-content.content-iterator.rest.now c.in-Some.content.now c.next.new.self.rest.now (map (λ w. w.now) (vec_items c.in_ok-words.words))
turn c = record {
  line = line_taken _ _ _ _ _ _ c.in-Some.ensures.steps (λ x b q k. search (rules, tests));
  words = c.in_ok-words.ensures;
}

counted : (c : After-is_empty) → c.is_empty.result ≡ eqb (length (map (λ w. w.now) (vec_items c.in_ok-words.words))) 0
counted c = c.is_empty.ensures ∙ ap (λ (n : ℕ). eqb n 0) (c.in_ok-words.words.ok.0 ∙ sym (length-map (vec_items c.in_ok-words.words) (λ w. w.now)))

pub returns-in_err-map_err-in-None-terms-clause-parsed : goal.returns-in_err-map_err-in-None-terms-clause-parsed
returns-in_err-map_err-in-None-terms-clause-parsed c =
    let at = goal.at.returns-in_err-map_err-in-None-terms-clause-parsed c in
    let p = err_from_is_err_and c.from_residual-in_err-map_err-in-None-terms.result c.from_residual-in_err-map_err-in-None-terms.ensures.1 in
    let read : c.terms_in.result ≡ parsed_terms (map (λ w. w.now) (vec_items c.in_ok-words.words)) = search rules in
    let bad : at_line c.loop-content.line c.terms_in.result ≡ Err c.in_err-map_err-in-None-terms.field-0.0 = search rules in
    rw (p.1, p.2)
    (sym c.loop-content.invariant.day
    ∙ bad_terms _ _ c.loop-content.line (turn at.In_ok-words) c.terms_in.result c.in-None-terms.is (sym (counted at.After-is_empty) ∙ c.if-not-is_empty.true) read _ bad)

pub returns-in_err-map_err-in-Some-terms-clause-parsed : goal.returns-in_err-map_err-in-Some-terms-clause-parsed
returns-in_err-map_err-in-Some-terms-clause-parsed c =
    let at = goal.at.returns-in_err-map_err-in-Some-terms-clause-parsed c in
    let p = err_from_is_err_and c.from_residual-in_err-map_err-in-Some-terms.result c.from_residual-in_err-map_err-in-Some-terms.ensures.1 in
    let read : c.command_in.result ≡ parsed_command (map (λ w. w.now) (vec_items c.in_ok-words.words)) = search rules in
    let bad : at_line c.loop-content.line c.command_in.result ≡ Err c.in_err-map_err-in-Some-terms.field-0.0 = search rules in
    rw (p.1, p.2)
    (sym c.loop-content.invariant.day
    ∙ bad_command _ _ c.loop-content.line (turn at.In_ok-words) c.command_in.result c.in-Some-terms.field-0 c.in-Some-terms.is (sym (counted at.After-is_empty) ∙ c.if-not-is_empty.true) read _ bad)

pub loop-content-preserved : goal.loop-content-preserved
loop-content-preserved c =
    let at = goal.at.loop-content-preserved c in
    let h = turn at.In_ok-words in
    let bare = sym (counted at.After-is_empty) in
    record {
      day =
          elim c.if-not-is_empty.branch [
            | then-not-is_empty+in-None-terms+in_ok-map_err-in-None-terms w ↦
                let read : w.terms_in.result ≡ parsed_terms (map (λ w. w.now) (vec_items c.in_ok-words.words)) = search rules in
                let good : at_line c.loop-content.line w.terms_in.result ≡ Ok w.in_ok-map_err-in-None-terms.field-0 = search rules in
                good_terms _ _ c.loop-content.line h w.terms_in.result w.in-None-terms.is (bare ∙ w.if-not-is_empty.true) read _ _ _ good (ap vec_items w.commands-is) w.terms-is
            | then-not-is_empty+in-Some-terms+in_ok-map_err-in-Some-terms+in_ok-push-in-Some-terms w ↦
                let read : w.command_in.result ≡ parsed_command (map (λ w. w.now) (vec_items c.in_ok-words.words)) = search rules in
                let good : at_line c.loop-content.line w.command_in.result ≡ Ok w.in_ok-map_err-in-Some-terms.field-0 = search rules in
                good_command _ _ c.loop-content.line h w.command_in.result _ w.in-Some-terms.is (bare ∙ w.if-not-is_empty.true) read _ _ _ good (ap vec_items w.commands-is ∙ w.in_ok-push-in-Some-terms.ensures.items) w.terms-is
            | else-not-is_empty w ↦ turn_blank _ _ c.loop-content.line h _ _ (bare ∙ w.if-not-is_empty.false) (ap vec_items w.commands-is) w.terms-is
          ]
          ∙ c.loop-content.invariant.day;
      counted = let s = c.in-Some.ensures.steps in omega (arith, simp length-append at (ap length s.0), s.1.1, s.2, c.loop-content.invariant.counted);
    }

pub returns-in_err-terms-clause-parsed : goal.returns-in_err-terms-clause-parsed
returns-in_err-terms-clause-parsed c =
    let p = err_from_is_err_and c.from_residual-in_err-terms.result c.from_residual-in_err-terms.ensures.1 in
    let none : c.loop-content.terms ≡ None = search rules in
    let bad : c.in_err-terms.field-0.0 ≡ record { line = c.loop-content.line; reason = NoTerms } = search rules in
    rw (p.1, p.2, bad) (sym c.loop-content.invariant.day ∙ ended_none _ _ c.loop-content.line _ none c.in-None.ensures.steps.0)

pub returns-clause-parsed : goal.returns-clause-parsed
returns-clause-parsed c =
    let some : c.loop-content.terms ≡ Some c.in_ok-terms.terms = search rules in
    sym c.loop-content.invariant.day ∙ ended_some _ _ c.loop-content.line _ _ some c.in-None.ensures.steps.0
