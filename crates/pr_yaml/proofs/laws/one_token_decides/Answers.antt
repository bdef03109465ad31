use Rattle.pr_yaml.proofs.TreeTable.{known}
use Rattle.pr_yaml.proofs.TreesEnd.{ends}
use Rattle.pr_yaml.proofs.laws.one_token_decides.Goals as goal

pub returns-clause-decided : goal.returns-clause-decided
returns-clause-decided c = known

pub returns-clause-ends : goal.returns-clause-ends
returns-clause-ends c = ends
