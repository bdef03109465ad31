use Rattle.pr_ast.proofs.NumberReading.{by_point, by_digits, no_number}
use Rattle.pr_ast.proofs.lex.number.number_in.Goals as goal

pub returns-in-Some : goal.returns-in-Some
returns-in-Some c = by_point _ c.in-Some.rest.now c.after_point.result c.in-Some.ensures c.after_point.ensures

pub returns-in-Ok : goal.returns-in-Ok
returns-in-Ok c = by_digits _ c.in-Ok.rest.now c.fraction_in.result c.in-None.ensures c.in-Ok.ensures c.fraction_in.ensures

pub returns-in-Err : goal.returns-in-Err
returns-in-Err c = no_number _ c.in-Err.rest.now c.in-None.ensures c.in-Err.ensures
