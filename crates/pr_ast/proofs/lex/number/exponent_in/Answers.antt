use Rattle.pr_ast.proofs.NumberReading.{signed, unsigned}
use Rattle.pr_ast.proofs.lex.number.exponent_in.Goals as goal

pub returns-in-Some : goal.returns-in-Some
returns-in-Some c = signed _ c.in-Some.rest.now c.digits_in.result c.in-Some.ensures c.digits_in.ensures

pub returns-in-None : goal.returns-in-None
returns-in-None c = unsigned _ c.digits_in-in-None.result c.in-None.ensures c.digits_in-in-None.ensures
