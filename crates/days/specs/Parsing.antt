-- A day of commands read from its text: the terms first, then commands, each on a line of its own.
use Rattle.std.specs.Prelude.{ℕ, ◌+◌, cond, List, [], ◌∷◌, length, Ok, Err, codes, Result, ◌==◌, slice_index_or}
use Rattle.std.specs.Str.{bytes_eq}
use Rattle.visit.specs.declared.Terms.{Terms}
use Rattle.command.specs.declared.Command.{Command}
use Rattle.command.specs.declared.Command.TheVariants.{Reading, Watermark}
use Rattle.days.specs.declared.BadLine.{BadLine}
use Rattle.days.specs.declared.Reason.{Reason}
use Rattle.days.specs.declared.Reason.TheVariants.{NoTerms, NoCommand, WrongCount}
use Rattle.command.specs.Bounds.{word_limit}
use Rattle.days.specs.Numbers.{number_in, number_limit}
use Rattle.days.specs.Words.{lines, line_words}

-- What was read goes on into f; a refusal stays.
abbrev pub then : {A B E : Type 0} → Result A E → (A → Result B E) → Result B E
then (Ok x) f = f x
then (Err e) f = Err e

-- `terms GAP LATENESS DAY`
abbrev pub parsed_terms : List (List ℕ) → Result Terms Reason
parsed_terms ws =
    cond (bytes_eq (slice_index_or ws 0 []) (codes "terms"))
    (cond (length ws == 4)
    (then (number_in number_limit (slice_index_or ws 1 [])) (λ gap.
    then (number_in number_limit (slice_index_or ws 2 [])) (λ lateness.
    then (number_in number_limit (slice_index_or ws 3 [])) (λ day. Ok (record { gap = gap; lateness = lateness; day = day })))))
    (Err WrongCount))
    (Err NoTerms)

-- `reading CARD TIME SERIAL AMOUNT`
abbrev pub parsed_reading : List (List ℕ) → Result Command Reason
parsed_reading ws =
    cond (length ws == 5)
    (then (number_in word_limit (slice_index_or ws 1 [])) (λ card.
    then (number_in number_limit (slice_index_or ws 2 [])) (λ time.
    then (number_in word_limit (slice_index_or ws 3 [])) (λ serial.
    then (number_in word_limit (slice_index_or ws 4 [])) (λ amount.
    Ok (Reading (record { card = card; time = time; serial = serial; amount = amount })))))))
    (Err WrongCount)

-- `watermark TIME`
abbrev pub parsed_watermark : List (List ℕ) → Result Command Reason
parsed_watermark ws = cond (length ws == 2) (then (number_in number_limit (slice_index_or ws 1 [])) (λ time. Ok (Watermark time))) (Err WrongCount)

abbrev pub parsed_command : List (List ℕ) → Result Command Reason
parsed_command ws =
    cond (bytes_eq (slice_index_or ws 0 []) (codes "reading")) (parsed_reading ws)
    (cond (bytes_eq (slice_index_or ws 0 []) (codes "watermark")) (parsed_watermark ws) (Err NoCommand))

-- A refusal with the number of its line.
abbrev pub at_line : {A : Type 0} → ℕ → Result A Reason → Result A BadLine
at_line n (Ok x) = Ok x
at_line n (Err why) = Err (record { line = n; reason = why })

-- The commands on the lines from number n on. A line without words is passed over.
unfoldable pub commands_from : ℕ → List (List ℕ) → Result (List Command) BadLine
commands_from n [] = Ok []
commands_from n (l ∷ ls) =
    cond (length (line_words l) == 0) (commands_from (n + 1) ls)
    (then (at_line n (parsed_command (line_words l))) (λ c. then (commands_from (n + 1) ls) (λ cs. Ok (c ∷ cs))))

-- The same, with the terms on the first line with words. A day without one is refused behind its last line.
unfoldable pub day_from : ℕ → List (List ℕ) → Result (Terms × List Command) BadLine
day_from n [] = Err (record { line = n; reason = NoTerms })
day_from n (l ∷ ls) =
    cond (length (line_words l) == 0) (day_from (n + 1) ls)
    (then (at_line n (parsed_terms (line_words l))) (λ t. then (commands_from (n + 1) ls) (λ cs. Ok (t, cs))))

-- Lines are counted from 1.
abbrev pub parsed_day : List ℕ → Result (Terms × List Command) BadLine
parsed_day text = day_from 1 (lines text)
