use Rattle.pr_types.proofs.Parts.{steps_of_typed}
use Rattle.pr_types.proofs.Whole.{checked_says, checked_so, may_evaluate}
use Rattle.pr_types.proofs.laws.checked_expressions_are_typed_and_reach_kept_samples.Goals as goal

pub returns : goal.returns
returns c = record {
  typed = checked_says;
  checked = checked_so;
  steps = steps_of_typed;
  evaluated = may_evaluate;
}
