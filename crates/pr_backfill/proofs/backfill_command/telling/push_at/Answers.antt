use Rattle.std.proofs.Common.{rules, append_assoc}
use Rattle.std.proofs.lemmas.Result.{IfOk-equal}
use Rattle.pr_backfill.specs.Text.{at_line}
use Rattle.pr_backfill.proofs.backfill_command.telling.push_at.Goals as goal

pub returns : goal.returns
unfolding at_line
returns c = search (rules, IfOk-equal, append_assoc)
