use Rattle.std.proofs.Common.{◌∙◌}
use Rattle.pr_head.proofs.Sets.{set_among}
use Rattle.pr_head.proofs.intake.marking.is_among.Goals as goal

pub returns : goal.returns
returns c = c.contains.ensures ∙ set_among c.args.labels.now c.args.sets.now.keys
