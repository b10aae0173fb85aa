-- Visits that are in order and apart, and those that are gathered to be merged into one.
use Rattle.std.specs.Prelude.{◌≡◌, ◌+◌, ◌<◌, ◌≤◌, List, [], ◌∷◌, length}
use Rattle.std.specs.List.{AllByRecursion}
use Rattle.visit.specs.declared.Terms.{Terms}
use Rattle.visit.specs.declared.Visit.{Visit}
use Rattle.visit.specs.Readings.{gap_of}
use Rattle.live.specs.Near.{visits_of}
use Rattle.live.specs.Walk.{place_of, taken_in}
use Rattle.live.specs.declared.gathering.Gathered.{Gathered}

-- A visit comes before another in order, and if both are of one card, it ends more than the gap before the other begins.
abbrev pub WellBefore : Terms → Visit → Visit → Type 0
WellBefore t v w = (v.card ≤ w.card) × (v.card ≡ w.card → v.to + gap_of t v.card < w.from)

-- Each visit begins no later than it ends, and is well before all that follow.
abbrev pub Apart : Terms → List Visit → Type 0
Apart t [] = Unit {0}
Apart t (v ∷ vs) = (v.from ≤ v.to) × AllByRecursion (WellBefore t v) vs × Apart t vs

-- The visit that is to be merged in.
abbrev pub own : Gathered → Visit
own g = g.visit

-- Gathered for a visit v among others: v itself, those that it takes in, and its place.
pub record Gathers (t : Terms) (v : Visit) (vs : List Visit) (g : Gathered) : Type 0 where
  pub few : length (visits_of g.near) ≤ 2
  pub near : own g ∷ visits_of g.near ≡ v ∷ taken_in t v vs
  pub place : g.at ≡ place_of t v vs
