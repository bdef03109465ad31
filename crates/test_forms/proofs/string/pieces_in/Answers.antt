use Rattle.pr_forms.proofs.Carrying.{turns_over}
use Rattle.test_forms.proofs.TextWays.{pieces_more, pieces_broken}
use Rattle.test_forms.proofs.string.pieces_in.Goals as goal

pub loop-byte-preserved : goal.loop-byte-preserved
loop-byte-preserved c = pieces_more _ _ c.in-Ok-Some.after.now c.loop-byte.bytes.items c.push.new.self.items c.in-Ok-Some.byte c.loop-byte.invariant (rw c.in-Ok-Some.field-0-is at c.in-Ok-Some.ensures.read) c.in_ok-push-in-Ok-Some.ensures.items

pub returns-in-Ok-None : goal.returns-in-Ok-None
returns-in-Ok-None c = turns_over c.loop-byte.invariant (rw c.in-Ok-None.field-0-is at c.in-Ok-None.ensures.read).next

pub returns-in-Err : goal.returns-in-Err
returns-in-Err c = pieces_broken _ _ c.in-Err.left.now c.loop-byte.bytes.items c.loop-byte.invariant c.in-Err.ensures.read
