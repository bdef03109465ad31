use Rattle.spec_tests.proofs.Beginning.{apart_at_first, new_at_first}
use Rattle.spec_tests.proofs.test_rounds.laws.groups_are_told_apart.Goals as goal

pub returns-clause-apart : goal.returns-clause-apart
returns-clause-apart c = apart_at_first

pub returns-clause-new : goal.returns-clause-new
returns-clause-new c = new_at_first
