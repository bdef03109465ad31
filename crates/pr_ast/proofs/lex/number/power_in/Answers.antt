use Rattle.pr_ast.proofs.NumberReading.{has_power, no_power}
use Rattle.pr_ast.proofs.lex.number.power_in.Goals as goal

pub returns-in-Some : goal.returns-in-Some
returns-in-Some c = has_power _ c.in-Some.rest.now c.exponent_in.result c.in-Some.ensures c.exponent_in.ensures

pub returns-in-None : goal.returns-in-None
returns-in-None c = no_power _ c.in-None.ensures
