use Rattle.pr_ast.proofs.NumberReading.{some_digits, lacks_digits}
use Rattle.pr_ast.proofs.lex.number.digits_in.Goals as goal

pub returns-in-Some : goal.returns-in-Some
returns-in-Some c = some_digits _ c.in-Some.rest.now c.more_digits_in.result.now c.in-Some.ensures.read c.more_digits_in.ensures

pub returns-in-None : goal.returns-in-None
returns-in-None c = lacks_digits _ c.in-None.ensures.read
