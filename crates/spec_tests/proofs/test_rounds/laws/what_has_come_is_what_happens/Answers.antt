use Rattle.spec_tests.proofs.Coming.{place_comes, world_is}
use Rattle.spec_tests.proofs.test_rounds.laws.what_has_come_is_what_happens.Goals as goal

pub returns-clause-place : goal.returns-clause-place
returns-clause-place c = λ input every groups s rounds place n round now w low early h. (place_comes input every groups s rounds place n round now w low early h).1

pub returns-clause-seen : goal.returns-clause-seen
returns-clause-seen c = world_is
