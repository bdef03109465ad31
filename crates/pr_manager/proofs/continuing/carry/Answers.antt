use Rattle.pr_manager.proofs.Continued.{carried_on}
use Rattle.pr_manager.proofs.continuing.carry.Goals as goal

pub returns : goal.returns
returns g c = carried_on g.R.Ranges.fits g.R.Ranges.last g.R.Ranges.passed c.args.new c.args.old c.carry.new.self c.in_ok-carry.ensures.keeps c.in_ok-carry.ensures.passed c.in_ok-carry.ensures.def c.in_ok-carry.ensures.file c.in_ok-carry.ensures.settings
