use Rattle.pr_backfill.proofs.Evaluating.{keeps_on, may_evaluate}
use Rattle.pr_backfill.proofs.backfill_command.filling.evaluate_with.Goals as goal

pub returns-clause-told : goal.returns-clause-told
returns-clause-told g c = λ history groups keeps after.
    c.step.ensures.told history groups keeps.each (may_evaluate c.args.filling.now.head history c.args.time keeps.holds) after

pub returns-clause-keeps : goal.returns-clause-keeps
returns-clause-keeps g c = λ history groups keeps after.
    let may = may_evaluate c.args.filling.now.head history c.args.time keeps.holds in
    keeps_on g.R.Ranges.fits g.R.Ranges.last g.R.Ranges.passed c.args.filling.now.head history c.step.result _ _ _ keeps.holds (c.step.ensures.keeps history groups keeps.each may after)
    (c.step.ensures.head history groups keeps.each may after)
