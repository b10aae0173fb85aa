-- The orders of readings, visits and lines are chained, which an `impl` of `Ordered` has to show.
use Rattle.std.specs.Prelude.{◌≡◌, ℕ, true, ◌&&◌, ◌||◌, ◌==◌, nat_lt}
use Rattle.std.proofs.Common.{arith}
use Rattle.std.proofs.lemmas.Bool.Decides.{nat_tests}
use Rattle.visit.specs.declared.Terms.{Terms}
use Rattle.visit.specs.Lines.{line_before}
use Rattle.visit.specs.Order.{Chained}
use Rattle.visit.specs.Readings.{reading_before}
use Rattle.visit.specs.Visits.{visit_before}

pair_chained :
    (a b c d e f : ℕ)
    → (nat_lt a c || (a == c && nat_lt b d)) ≡ true
    → (nat_lt c e || (c == e && nat_lt d f)) ≡ true
    → (nat_lt a e || (a == e && nat_lt b f)) ≡ true
pair_chained a b c d e f p q = grind (arith, nat_tests)

triple_chained :
    (a b c d e f g h i : ℕ)
    → (nat_lt a d || (a == d && (nat_lt b e || (b == e && nat_lt c f)))) ≡ true
    → (nat_lt d g || (d == g && (nat_lt e h || (e == h && nat_lt f i)))) ≡ true
    → (nat_lt a g || (a == g && (nat_lt b h || (b == h && nat_lt c i)))) ≡ true
triple_chained a b c d e f g h i p q = grind (arith, nat_tests)

pub reading_chained : (t : Terms) → Chained (reading_before t)
unfolding reading_before
reading_chained t x y z p q = triple_chained x.card x.time x.serial y.card y.time y.serial z.card z.time z.serial p q

pub visit_chained : (t : Terms) → Chained (visit_before t)
unfolding visit_before
visit_chained t x y z p q = pair_chained x.card x.from y.card y.from z.card z.from p q

pub line_chained : (t : Terms) → Chained (line_before t)
unfolding line_before
line_chained t x y z p q = pair_chained x.card x.day y.card y.day z.card z.day p q
