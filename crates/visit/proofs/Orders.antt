-- What `<` answers at pairs and triples of numbers.
use Rattle.std.specs.Prelude.{◌≡◌, Bool, true, false, cond, ◌&&◌, ◌||◌, Some, refl}
use Rattle.std.specs.Ordering.{is_lt, is_some_and, partial_ordering_then}
use Rattle.std.specs.declared.cmp.Ordering.{Ordering}
use Rattle.std.specs.declared.cmp.Ordering.TheVariants.{Less, Equal, Greater}

-- How two numbers compare, by whether the first is less and whether they are equal.
abbrev pub compared : Bool → Bool → Ordering
compared less same = cond less Less (cond same Equal Greater)

pub pair_before : (l e m f : Bool) → is_some_and is_lt (partial_ordering_then (Some (compared l e)) (Some (compared m f))) ≡ (l || (e && m))
pair_before true e m f = refl
pair_before false true true f = refl
pair_before false true false true = refl
pair_before false true false false = refl
pair_before false false m f = refl

pub triple_before :
    (l e m f n g : Bool)
    → is_some_and is_lt (partial_ordering_then (partial_ordering_then (Some (compared l e)) (Some (compared m f))) (Some (compared n g)))
    ≡ (l || (e && (m || (f && n))))
triple_before true e m f n g = refl
triple_before false true true f n g = refl
triple_before false true false true n g = pair_before false true n g
triple_before false true false false n g = refl
triple_before false false m f n g = refl
