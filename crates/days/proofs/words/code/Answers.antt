use Rattle.std.proofs.Common.{◌||◌, ℕ, length, take, ap, ◌∙◌, rules, tests}
use Rattle.std.proofs.lemmas.Iterator.{YieldsList-from_slice}
use Rattle.std.proofs.lemmas.Iterator.Search.{position_from_yields_List}
use Rattle.std.specs.Option.{unwrap_or}
use Rattle.days.specs.Words.{hash, newline}
use Rattle.days.proofs.Splitting.{code_cut, found_or_len}
use Rattle.days.proofs.words.code.Goals as goal

pub returns : goal.returns
returns c =
    let line = c.args.line.now in
    let found = position_from_yields_List (λ b. hash b || newline b) _ _ _ c.position-end.ensures.ran (YieldsList-from_slice line cc) (λ x b q k. search (rules, tests)) in
    ap (λ (n : ℕ). take n line) (c.unwrap_or.ensures ∙ ap (λ o. unwrap_or o (length line)) found ∙ found_or_len (λ b. hash b || newline b) line)
    ∙ code_cut line
