use Rattle.pr_ast.proofs.NumberReading.{tail, no_tail}
use Rattle.pr_ast.proofs.lex.number.after_point.Goals as goal

pub returns-in-Ok : goal.returns-in-Ok
returns-in-Ok c = tail _ c.in-Ok.rest.now c.power_in.result c.in-Ok.ensures c.power_in.ensures

pub returns-in-Err : goal.returns-in-Err
returns-in-Err c = no_tail _ c.in-Err.rest.now c.in-Err.ensures
