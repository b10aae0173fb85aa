use Rattle.std.proofs.Common.{◌≡◌, ℕ, ◌-◌, ◌<◌, ◌≤◌, cond, ltb, not, length, drop, take, Some, None, Option, ap, sym, ◌∙◌, arith, rules, tests}
use Rattle.std.proofs.lemmas.Iterator.{YieldsList-from_slice}
use Rattle.std.proofs.lemmas.Iterator.Search.{position_from_yields_List}
use Rattle.std.specs.List.{position_or_len}
use Rattle.std.specs.Option.{unwrap_or}
use Rattle.days.specs.Words.{blank, words}
use Rattle.std.proofs.lemmas.List.{length-drop, take_all}
use Rattle.days.proofs.FirstWords.{first_cut, first_none}
use Rattle.days.proofs.Splitting.{found_or_len}
use Rattle.days.proofs.words.first_word.Goals as goal

pub returns-in_err-start : goal.returns-in_err-start
returns-in_err-start c =
    let text = c.args.text.now in
    let found = position_from_yields_List (λ b. not (blank b)) _ _ _ c.position.ensures.ran (YieldsList-from_slice text cc) (λ x b q k. search (rules, tests)) in
    rw c.from_residual.ensures (first_none text (sym found ∙ c.in_err-start.was))

pub returns : goal.returns
returns c =
    let text = c.args.text.now in
    let found = position_from_yields_List (λ b. not (blank b)) _ _ _ c.position.ensures.ran (YieldsList-from_slice text cc) (λ x b q k. search (rules, tests)) in
    let rest = take (length text - c.in_ok-start.start) (drop c.in_ok-start.start text) in
    let stop = position_from_yields_List blank _ _ _ c.position-end.ensures.ran (YieldsList-from_slice rest cc) (λ x b q k. search (rules, tests)) in
    let whole : rest ≡ drop c.in_ok-start.start text = take_all (length text - c.in_ok-start.start) (drop c.in_ok-start.start text) (omega (arith, length-drop c.in_ok-start.start text)) in
    let k : c.unwrap_or.result ≡ position_or_len blank rest = c.unwrap_or.ensures ∙ ap (λ o. unwrap_or o (length rest)) stop ∙ found_or_len blank rest in
    first_cut text rest c.in_ok-start.start c.unwrap_or.result (sym found ∙ c.in_ok-start.was) whole k
    ∙ cc (c.split_at.ensures.front, c.split_at.ensures.back)
