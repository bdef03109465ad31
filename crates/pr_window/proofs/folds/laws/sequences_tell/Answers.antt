use Rattle.pr_window.proofs.Answering.{sequence_answers}
use Rattle.pr_window.proofs.folds.laws.sequences_tell.Goals as goal

pub returns : goal.returns
returns c = sequence_answers
