use Rattle.pr_window.proofs.Answering.{total_answers, total_count}
use Rattle.pr_window.proofs.folds.laws.totals_tell.Goals as goal

pub returns : goal.returns
returns c = record { answer = total_answers; count = total_count }
