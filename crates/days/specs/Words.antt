-- A text as lines, and a line as words.
use Rattle.std.specs.Prelude.{ℕ, Bool, true, false, cond, ◌||◌, List, [], ◌∷◌, filter, ◌==◌}
use Rattle.std.specs.List.{before_first, onto_first, slice_split}

-- A newline ends a line, and # begins a comment.
abbrev pub newline : ℕ → Bool
newline b = b == 10

abbrev pub hash : ℕ → Bool
hash b = b == 35

-- A space, a tab or a carriage return separates words.
abbrev pub blank : ℕ → Bool
blank b = b == 32 || (b == 9 || b == 13)

abbrev pub filled : List ℕ → Bool
filled [] = false
filled (b ∷ bs) = true

-- A text that ends with a newline has no further line behind it; the empty text has none.
unfoldable pub lines : List ℕ → List (List ℕ)
lines [] = []
lines (b ∷ bs) = cond (newline b) ([] ∷ lines bs) (onto_first b (lines bs))

unfoldable pub words : List ℕ → List (List ℕ)
words text = filter filled (slice_split blank text)

-- The words of a line before its comment.
abbrev pub line_words : List ℕ → List (List ℕ)
line_words line = words (before_first hash line)

-- No line means anything that has more words than a reading, so one word more is all that is looked at.
abbrev pub most_words : ℕ
most_words = 6
