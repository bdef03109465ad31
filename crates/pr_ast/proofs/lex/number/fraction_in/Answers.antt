use Rattle.pr_ast.proofs.NumberReading.{has_fraction, no_fraction}
use Rattle.pr_ast.proofs.lex.number.fraction_in.Goals as goal

pub returns-in-Some : goal.returns-in-Some
returns-in-Some c = has_fraction _ c.in-Some.rest.now c.more_digits_in.result.now c.power_in.result c.in-Some.ensures c.more_digits_in.ensures c.power_in.ensures

pub returns-in-None : goal.returns-in-None
returns-in-None c = no_fraction _ c.power_in-in-None.result c.in-None.ensures c.power_in-in-None.ensures
