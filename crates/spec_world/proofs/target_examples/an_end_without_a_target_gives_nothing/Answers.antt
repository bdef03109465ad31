use Rattle.std.proofs.Common.{refl}
use Rattle.spec_world.specs.Step.{next}
use Rattle.spec_world.proofs.target_examples.an_end_without_a_target_gives_nothing.Goals as goal

pub returns-clause-after : goal.returns-clause-after
unfolding next
returns-clause-after c = refl

pub returns-clause-taken : goal.returns-clause-taken
unfolding next
returns-clause-taken c = refl
