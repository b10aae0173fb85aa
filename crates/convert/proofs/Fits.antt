-- What a text says fits: every number of a day that is read is below its limit.
use Rattle.std.proofs.Common.{◌≡◌, ℕ, ◌+◌, true, List, [], ◌∷◌, IfOk, Ok, arith}
use Rattle.std.specs.List.{AllByRecursion}
use Rattle.std.proofs.ByRecursion.{All-weaker}
use Rattle.std.proofs.lemmas.Result.{IfOk-at_ok}
use Rattle.std.proofs.lemmas.Bool.Decides.{nat_tests}
use Rattle.visit.specs.declared.Terms.{Terms}
use Rattle.command.specs.declared.Command.{Command}
use Rattle.command.specs.declared.Command.TheVariants.{Reading, Watermark}
use Rattle.feed.specs.Files.{storable}
use Rattle.days.specs.Parsing.{commands_from, day_from, parsed_command, parsed_day, parsed_terms}
use Rattle.days.specs.RoundTrip.{CommandFits, TermsFit}
use Rattle.days.specs.Words.{line_words, lines}

-- the words of a line
terms_fit : (ws : List (List ℕ)) → IfOk (parsed_terms ws) TermsFit
terms_fit ws = grind (arith, nat_tests)

command_fits : (ws : List (List ℕ)) → IfOk (parsed_command ws) CommandFits
command_fits ws = grind (arith, nat_tests)

-- the lines behind one
commands_fit : (n : ℕ) (ls : List (List ℕ)) → IfOk (commands_from n ls) (AllByRecursion CommandFits)
unfolding commands_from
commands_fit n [] = tt
commands_fit n (l ∷ ls) = let first = command_fits (line_words l) in let rest = commands_fit (n + 1) ls in grind (arith, nat_tests)

abbrev DayFits : Terms × List Command → Type 0
DayFits d = TermsFit d.0 × AllByRecursion CommandFits d.1

day_fits : (n : ℕ) (ls : List (List ℕ)) → IfOk (day_from n ls) DayFits
unfolding day_from
day_fits n [] = tt
day_fits n (l ∷ ls) =
    let first = terms_fit (line_words l) in
    let rest = commands_fit (n + 1) ls in
    let next = day_fits (n + 1) ls in
    grind (arith, nat_tests)

pub text_fits : (text : List ℕ) (t : Terms) (cs : List Command) → parsed_day text ≡ Ok (t, cs) → TermsFit t × AllByRecursion CommandFits cs
text_fits text t cs e = IfOk-at_ok DayFits e (day_fits 1 (lines text))

-- what fits can be stored
fits_stored : (c : Command) → CommandFits c → storable c ≡ true
unfolding storable
fits_stored (Reading e) h = grind (arith, nat_tests)
fits_stored (Watermark m) h = grind (arith, nat_tests)

pub all_stored : (cs : List Command) → AllByRecursion CommandFits cs → AllByRecursion (λ c. storable c ≡ true) cs
all_stored cs h = All-weaker CommandFits (λ c. storable c ≡ true) fits_stored cs h

-- so is each command of a day that is read
pub day_stored : (text : List ℕ) (t : Terms) (cs : List Command) → parsed_day text ≡ Ok (t, cs) → AllByRecursion (λ c. storable c ≡ true) cs
day_stored text t cs e = all_stored cs (text_fits text t cs e).1
