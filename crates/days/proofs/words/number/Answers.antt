use Rattle.std.proofs.Common.{sym, ◌∙◌, arith}
use Rattle.std.proofs.lemmas.Bool.Decides.{nat_tests}
use Rattle.days.proofs.Digits.{no_text, read_fits, read_large, unread_large}
use Rattle.days.proofs.words.number.Goals as goal

pub returns-in_default : goal.returns-in_default
returns-in_default c = let n = no_text c.args.word.now c.in_default.ensures.cases.0 in let y = c.is_number.ensures in grind (arith, nat_tests)

pub returns-in-Ok-parse : goal.returns-in-Ok-parse
returns-in-Ok-parse c =
    read_fits c.args.most c.args.word.now c.parse.result (rw c.in-Ok.ensures.cases.0 at c.parse.ensures.value.0)
    (sym c.is_number.ensures ∙ c.if-not-is_number.false) c.in-Ok-parse.number c.in-Ok-parse.is c.if-number-most.true

pub returns-in_default-parse : goal.returns-in_default-parse
returns-in_default-parse c =
    read_large c.args.most c.args.word.now c.parse.result (rw c.in-Ok.ensures.cases.0 at c.parse.ensures.value.0)
    (sym c.is_number.ensures ∙ c.if-not-is_number.false) c.in-Ok-parse.number c.in-Ok-parse.is c.if-number-most.false

pub returns-in_default-parse-2 : goal.returns-in_default-parse-2
returns-in_default-parse-2 c =
    unread_large c.args.most c.args.word.now c.parse.result (rw c.in-Ok.ensures.cases.0 at c.parse.ensures.value.0)
    (sym c.is_number.ensures ∙ c.if-not-is_number.false) c.in_default-parse.field-0 c.in_default-parse.is c.ranges.most.fits
