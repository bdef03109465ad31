use Rattle.std.proofs.Common.{refl}
use Rattle.spec_world.specs.Step.{next}
use Rattle.spec_world.proofs.examples.a_sample_adds_its_entry.Goals as goal

pub returns-clause-kept : goal.returns-clause-kept
unfolding next
returns-clause-kept c = refl
