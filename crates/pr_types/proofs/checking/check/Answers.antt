use Rattle.pr_ast.specs.Tree.{tree_of}
use Rattle.pr_types.proofs.Whole.{may_evaluate}
use Rattle.pr_types.proofs.checking.check.Goals as goal

pub returns-clause-verdict : goal.returns-clause-verdict
returns-clause-verdict c = may_evaluate (tree_of c.args.e) c.in_ok-gives.gives c.in_ok-gives.ensures.checked
