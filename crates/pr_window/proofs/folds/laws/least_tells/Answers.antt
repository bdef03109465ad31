use Rattle.pr_window.proofs.Answering.{least_answers}
use Rattle.pr_window.proofs.folds.laws.least_tells.Goals as goal

pub returns : goal.returns
returns c = least_answers
