use Rattle.pr_window.proofs.Answering.{greatest_answers}
use Rattle.pr_window.proofs.folds.laws.greatest_tells.Goals as goal

pub returns : goal.returns
returns c = greatest_answers
