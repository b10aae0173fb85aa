-- A row put together of its parts, and cut into them again.
use Rattle.std.proofs.Common.{◌≡◌, ℕ, ◌+◌, ◌-◌, ◌*◌, ◌≤◌, List, ◌++◌, length, take, drop, sym, ap, ◌∙◌, arith}
use Rattle.std.specs.List.{between}
use Rattle.std.proofs.lemmas.List.Edits.{length-between}
use Rattle.std.proofs.lemmas.List.{append_assoc, drop_at, length-append, length-take-le, take_at}
use Rattle.rows.specs.Lines.{line_width}
use Rattle.rows.specs.Readings.{reading_width}
use Rattle.rows.specs.Visits.{visit_width}
use Rattle.store.specs.Layout.{lines_at, lines_room, readings_at, readings_room, store_size, visits_at, visits_room}
use Rattle.store.specs.Parts.{Parts, parts, whole}

-- Parts each as long as the layout has it.
pub record Sized (p : Parts) : Type 0 where
  pub header : length p.header ≡ visits_at
  pub visits : length p.visits ≡ visits_room * visit_width
  pub readings : length p.readings ≡ readings_room * reading_width
  pub lines : length p.lines ≡ lines_room * line_width

-- The part of a list between what stands in front of it and behind.
between_at : (p q r : List ℕ) (i j : ℕ) → length p ≡ i → length q ≡ j - i → between i j (p ++ (q ++ r)) ≡ q
between_at p q r i j e f = ap (take (j - i)) (drop_at p (q ++ r) i e) ∙ take_at q r (j - i) f

-- Parts that are equal one by one.
abbrev parts_of : (h v r l rest : List ℕ) → Parts
parts_of h v r l rest = record { header = h; visits = v; readings = r; lines = l; rest = rest }

pub parts_by : (p q : Parts) → p.header ≡ q.header → p.visits ≡ q.visits → p.readings ≡ q.readings → p.lines ≡ q.lines → p.rest ≡ q.rest → p ≡ q
parts_by p q a b c d e = grind arith

-- Four parts and the rest, cut where each ends.
abbrev row : (h v r l rest : List ℕ) → List ℕ
row h v r l rest = h ++ (v ++ (r ++ (l ++ rest)))

module _ (h v r l rest : List ℕ) (a b c d : ℕ) (eh : length h ≡ a) (ev : length v ≡ b - a) (er : length r ≡ c - b) (el : length l ≡ d - c) (o : a ≤ b) (q : b ≤ c) (z : c ≤ d) where
  third : row h v r l rest ≡ (h ++ v) ++ (r ++ (l ++ rest))
  third = sym (append_assoc h v (r ++ (l ++ rest)))

  fourth : row h v r l rest ≡ ((h ++ v) ++ r) ++ (l ++ rest)
  fourth = third ∙ sym (append_assoc (h ++ v) r (l ++ rest))

  fifth : row h v r l rest ≡ (((h ++ v) ++ r) ++ l) ++ rest
  fifth = fourth ∙ sym (append_assoc ((h ++ v) ++ r) l rest)

  to_third : length (h ++ v) ≡ b
  to_third = length-append h v ∙ omega arith

  to_fourth : length ((h ++ v) ++ r) ≡ c
  to_fourth = grind (arith, length-append (h ++ v) r, to_third)

  to_fifth : length (((h ++ v) ++ r) ++ l) ≡ d
  to_fifth = grind (arith, length-append ((h ++ v) ++ r) l, to_fourth)

  cut_first : take a (row h v r l rest) ≡ h
  cut_first = take_at h (v ++ (r ++ (l ++ rest))) a eh

  cut_second : between a b (row h v r l rest) ≡ v
  cut_second = between_at h v (r ++ (l ++ rest)) a b eh ev

  cut_third : between b c (row h v r l rest) ≡ r
  cut_third = ap (between b c) third ∙ between_at (h ++ v) r (l ++ rest) b c to_third er

  cut_fourth : between c d (row h v r l rest) ≡ l
  cut_fourth = ap (between c d) fourth ∙ between_at ((h ++ v) ++ r) l rest c d to_fourth el

  cut_rest : drop d (row h v r l rest) ≡ rest
  cut_rest = ap (drop d) fifth ∙ drop_at (((h ++ v) ++ r) ++ l) rest d to_fifth

  long : length (row h v r l rest) ≡ d + length rest
  long = grind (arith, length-append (((h ++ v) ++ r) ++ l) rest, fifth, to_fifth)

  cut_all : parts_of (take a (row h v r l rest)) (between a b (row h v r l rest)) (between b c (row h v r l rest)) (between c d (row h v r l rest)) (drop d (row h v r l rest)) ≡ parts_of h v r l rest
  cut_all = parts_by _ (parts_of h v r l rest) cut_first cut_second cut_third cut_fourth cut_rest

pub parts_whole : (p : Parts) → Sized p → parts (whole p) ≡ p
parts_whole p z =
    cut_all p.header p.visits p.readings p.lines p.rest visits_at readings_at lines_at store_size
    z.header z.visits z.readings z.lines (omega arith) (omega arith) (omega arith)

pub length_whole : (p : Parts) → Sized p → length (whole p) ≡ store_size + length p.rest
length_whole p z =
    long p.header p.visits p.readings p.lines p.rest visits_at readings_at lines_at store_size
    z.header z.visits z.readings z.lines (omega arith) (omega arith) (omega arith)

-- The parts of a row that is long enough.
pub sized_parts : (xs : List ℕ) → store_size ≤ length xs → Sized (parts xs)
sized_parts xs h =
    record {
      header = length-take-le visits_at xs (omega arith);
      visits = length-between xs visits_at readings_at (omega arith);
      readings = length-between xs readings_at lines_at (omega arith);
      lines = length-between xs lines_at store_size h;
    }
