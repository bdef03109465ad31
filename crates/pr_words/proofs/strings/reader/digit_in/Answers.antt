use Rattle.pr_words.proofs.StringReading.{digit_read, digit_end, no_digit, unfit_digit}
use Rattle.pr_words.proofs.StringUtf8.{digit_text}
use Rattle.pr_words.proofs.strings.reader.digit_in.Goals as goal

pub returns-in_default-clause-read : goal.returns-in_default-clause-read
returns-in_default-clause-read c = digit_end _ c.args.limit c.args.left c.args.number c.in_default.ensures.cases

pub returns-in_default-digit_of-clause-read : goal.returns-in_default-digit_of-clause-read
returns-in_default-digit_of-clause-read c = no_digit _ c.in-Some.rest.now c.in-Some.first.now c.args.limit c.args.left c.args.number c.in-Some.ensures.cases.0 c.in_default-digit_of.ensures.value

pub returns-then-fits-clause-read : goal.returns-then-fits-clause-read
returns-then-fits-clause-read c =
    digit_read _ c.in-Some.rest.now c.in-Some.first.now c.args.limit c.args.left c.args.number c.in-Some-digit_of.digit c.fits.result c.in-Some.ensures.cases.0 c.in-Some-digit_of.ensures.value
    c.fits.ensures c.if-fits.true

pub returns-else-fits-clause-read : goal.returns-else-fits-clause-read
returns-else-fits-clause-read c =
    unfit_digit _ c.in-Some.rest.now c.in-Some.first.now c.args.limit c.args.left c.args.number c.in-Some-digit_of.digit c.fits.result c.in-Some.ensures.cases.0 c.in-Some-digit_of.ensures.value
    c.fits.ensures c.if-fits.false

pub returns-then-fits-clause-text : goal.returns-then-fits-clause-text
returns-then-fits-clause-text c = digit_text _ c.in-Some.rest.now c.in-Some.first.now c.in-Some-digit_of.digit c.in-Some.ensures.cases.0 c.in-Some-digit_of.ensures.value
