use Rattle.std.proofs.Common.{Option, subst, sym}
use Rattle.pr_group.specs.private.Keeping.{KeptGroup}
use Rattle.pr_manager.specs.private.Continuing.{Continues}
use Rattle.pr_manager.proofs.Continued.{goes_alone}
use Rattle.pr_manager.proofs.continuing.carry_any.Goals as goal

pub returns-in-None : goal.returns-in-None
returns-in-None g c =
    subst (λ (o : Option (KeptGroup g.row.R.Denot)). Continues g.R.Ranges.fits g.R.Ranges.last g.R.Ranges.passed c.args.new o c.args.new) (sym c.in-None.is)
    (goes_alone g.R.Ranges.fits g.R.Ranges.last g.R.Ranges.passed c.args.new)
