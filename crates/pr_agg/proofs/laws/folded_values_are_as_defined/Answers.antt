use Rattle.pr_agg.proofs.Folded.{count_folded}
use Rattle.pr_agg.proofs.laws.folded_values_are_as_defined.Goals as goal

pub returns-clause-count : goal.returns-clause-count
returns-clause-count c = count_folded
