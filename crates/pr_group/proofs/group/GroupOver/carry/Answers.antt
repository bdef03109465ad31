use Rattle.pr_group.proofs.Going.{keeps, on_ok, passes}
use Rattle.pr_group.proofs.group.GroupOver.carry.Goals as goal

pub returns-clause-keeps : goal.returns-clause-keeps
returns-clause-keeps g c = λ history waits was new old.
    on_ok _ _ c.take_over.result (λ gone. keeps g.R.Ranges.fits g.R.Ranges.last g.R.Ranges.passed c.args.self.now c.args.old c.take_over.new.self gone history waits was new old) c.take_over.ensures

pub returns-clause-passed : goal.returns-clause-passed
returns-clause-passed g c = λ history waits was new old i n labels.
    on_ok _ _ c.take_over.result (λ gone. passes g.R.Ranges.fits g.R.Ranges.last g.R.Ranges.passed c.args.self.now c.args.old c.take_over.new.self gone history waits was new old i n labels) c.take_over.ensures
