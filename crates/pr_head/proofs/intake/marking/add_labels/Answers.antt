use Rattle.std.proofs.Common.{◌∙◌}
use Rattle.pr_head.proofs.Sets.{set_insert}
use Rattle.pr_head.proofs.intake.marking.add_labels.Goals as goal

pub returns : goal.returns
returns c = c.in_ok-insert.ensures.keys ∙ set_insert c.args.sets.now.keys c.args.labels
