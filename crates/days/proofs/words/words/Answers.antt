use Rattle.std.proofs.Common.{◌≡◌, ◌+◌, ◌-◌, ◌++◌, take, ◌∷◌, map, vec_items, ap, sym, ◌∙◌, arith, rules}
use Rattle.days.specs.Words.{most_words, words}
use Rattle.days.proofs.FirstWords.{one_more}
use Rattle.days.proofs.words.words.Goals as goal

pub loop-preserved : goal.loop-preserved
loop-preserved c =
    let next : words c.loop.rest.now ≡ c.in-Some.word.now ∷ words c.in-Some.behind.now = search rules in
    ap (λ l. map (λ w. w.now) l ++ take (most_words - (c.loop.counter + 1)) (words c.in-Some.behind.now)) c.in_ok-push.ensures.items
    ∙ one_more (λ w. w.now) (vec_items c.loop.found) c.in-Some.word c.loop.rest.now c.in-Some.behind.now c.loop.counter (omega (arith, c.loop-test.true)) next
    ∙ c.loop.invariant
