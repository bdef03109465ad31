use Rattle.std.proofs.Common.{rules}
use Rattle.pr_time.proofs.SpanPublic.{ok_span, ok_only, ok_place, some_left, left_place, left_is_short, none_read, none_place, bad_is_short}
use Rattle.pr_time.proofs.text.read_span.Goals as goal

pub place_of-requires : goal.place_of-requires
place_of-requires c = left_is_short _ c.in-Ok.left.now c.in-Ok.ms c.in-Ok.ensures.read

pub place_of-requires-in-Err : goal.place_of-requires-in-Err
place_of-requires-in-Err c = bad_is_short _ c.in-Err.rest.now c.in-Err.ensures.read

pub returns-then-is_empty-clause-span : goal.returns-then-is_empty-clause-span
returns-then-is_empty-clause-span c = ok_span _ c.in-Ok.left.now c.in-Ok.ms c.in-Ok.ensures.read c.new.result _ (search rules) c.new.ensures c.ok_or.ensures.value

pub returns-then-is_empty-clause-only : goal.returns-then-is_empty-clause-only
returns-then-is_empty-clause-only c = ok_only _ c.in-Ok.left.now c.in-Ok.ms c.in-Ok.ensures.read c.new.result _ c.new.ensures c.ok_or.ensures.value

pub returns-then-is_empty-clause-place : goal.returns-then-is_empty-clause-place
returns-then-is_empty-clause-place c = ok_place _ c.in-Ok.left.now c.in-Ok.ms c.in-Ok.ensures.read c.new.result _ (search rules) c.new.ensures c.ok_or.ensures.value

pub returns-else-is_empty-clause-only : goal.returns-else-is_empty-clause-only
returns-else-is_empty-clause-only c = λ v d. some_left _ c.in-Ok.left.now c.in-Ok.ms c.in-Ok.ensures.read v c.is_empty.result c.place_of.result c.is_empty.ensures c.if-is_empty.false d

pub returns-else-is_empty-clause-place : goal.returns-else-is_empty-clause-place
returns-else-is_empty-clause-place c = rw c.place_of.ensures (left_place _ c.in-Ok.left.now c.in-Ok.ms c.in-Ok.ensures.read)

pub returns-in-Err-clause-only : goal.returns-in-Err-clause-only
returns-in-Err-clause-only c = λ v d. none_read _ c.in-Err.rest.now c.in-Err.ensures.read v c.place_of-in-Err.result d

pub returns-in-Err-clause-place : goal.returns-in-Err-clause-place
returns-in-Err-clause-place c = rw c.place_of-in-Err.ensures (none_place _ c.in-Err.rest.now c.in-Err.ensures.read)
