use Rattle.pr_ast.proofs.NumberReading.{good_short, bad_short, good_end, bad_end}
use Rattle.pr_ast.proofs.lex.number.number_end.Goals as goal

pub place_of-requires : goal.place_of-requires
place_of-requires c = good_short _ c.in-Ok.left.now c.in-Ok.ensures

pub place_of-requires-in-Err : goal.place_of-requires-in-Err
place_of-requires-in-Err c = bad_short _ c.in-Err.rest.now c.in-Err.ensures

pub returns-in-Ok-clause-longest : goal.returns-in-Ok-clause-longest
returns-in-Ok-clause-longest c = rw c.place_of.ensures (good_end _ c.in-Ok.left.now c.in-Ok.ensures)

pub returns-in-Err-clause-longest : goal.returns-in-Err-clause-longest
returns-in-Err-clause-longest c = rw c.place_of-in-Err.ensures (bad_end _ c.in-Err.rest.now c.in-Err.ensures)
