use Rattle.std.proofs.Common.{refl}
use Rattle.spec_world.specs.Step.{next}
use Rattle.spec_world.proofs.examples.an_event_before_the_last_is_refused.Goals as goal

pub returns-clause-unchanged : goal.returns-clause-unchanged
unfolding next
returns-clause-unchanged c = refl
