use Rattle.pr_types.proofs.Whole.{may_evaluate_as}
use Rattle.pr_types.proofs.checking.Checked.expr.Goals as goal

pub returns-clause-checked : goal.returns-clause-checked
returns-clause-checked c = may_evaluate_as c.self.inside.expr c.args.self.now c.self.inside.gives c.self.view_is c.self.invariant.checked_so
