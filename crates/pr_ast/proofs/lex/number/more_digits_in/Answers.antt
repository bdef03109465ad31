use Rattle.pr_ast.proofs.NumberReading.{no_digits, one_digit, all_digits}
use Rattle.pr_ast.proofs.lex.number.more_digits_in.Goals as goal

pub loop-digit-init : goal.loop-digit-init
loop-digit-init c = no_digits _

pub loop-digit-preserved : goal.loop-digit-preserved
loop-digit-preserved c = one_digit _ c.loop-digit.rest.now c.in-Some.after.now c.loop-digit.invariant c.in-Some.ensures.read

pub returns : goal.returns
returns c = all_digits _ c.loop-digit.rest.now c.loop-digit.invariant c.in_default.ensures.read
