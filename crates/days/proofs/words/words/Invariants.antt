use Rattle.std.proofs.Common.{◌≡◌, ◌++◌, ◌-◌, map, take}
use Rattle.std.specs.List.{before_first}
use Rattle.days.specs.Words.{line_words, most_words, newline, words}
use Rattle.days.proofs.words.words.Given as goal

-- What is found, and the words of the rest as far as there is room.
abbrev pub invariant-loop : goal.invariant-loop
invariant-loop l = map (λ w. w.now) l.found.items ++ take (most_words - l.counter) (words l.rest) ≡ take most_words (line_words (before_first newline l.line))
