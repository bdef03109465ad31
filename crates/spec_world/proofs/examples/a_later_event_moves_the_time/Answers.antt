use Rattle.std.proofs.Common.{refl}
use Rattle.spec_world.specs.Step.{next}
use Rattle.spec_world.proofs.examples.a_later_event_moves_the_time.Goals as goal

pub returns-clause-added : goal.returns-clause-added
unfolding next
returns-clause-added c = refl

pub returns-clause-same : goal.returns-clause-same
unfolding next
returns-clause-same c = refl
