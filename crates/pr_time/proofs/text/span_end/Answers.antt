use Rattle.pr_time.proofs.SpanPublic.{left_place, left_is_short, none_place, bad_is_short}
use Rattle.pr_time.proofs.text.span_end.Goals as goal

pub place_of-requires : goal.place_of-requires
place_of-requires c = left_is_short _ c.in-Ok.left.now c.in-Ok._ms c.in-Ok.ensures.read

pub place_of-requires-in-Err : goal.place_of-requires-in-Err
place_of-requires-in-Err c = bad_is_short _ c.in-Err.rest.now c.in-Err.ensures.read

pub returns-in-Ok-clause-place : goal.returns-in-Ok-clause-place
returns-in-Ok-clause-place c = rw c.place_of.ensures (left_place _ c.in-Ok.left.now c.in-Ok._ms c.in-Ok.ensures.read)

pub returns-in-Err-clause-place : goal.returns-in-Err-clause-place
returns-in-Err-clause-place c = rw c.place_of-in-Err.ensures (none_place _ c.in-Err.rest.now c.in-Err.ensures.read)
