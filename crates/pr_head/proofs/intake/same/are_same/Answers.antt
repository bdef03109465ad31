use Rattle.std.proofs.Common.{sym, ◌∙◌}
use Rattle.pr_head.proofs.Unchanged.{no_markers}
use Rattle.pr_head.proofs.intake.same.are_same.Goals as goal

pub returns : goal.returns
returns c = λ now same. no_markers now c.args.old.now c.args.new.now (sym c.eq.ensures ∙ same)
