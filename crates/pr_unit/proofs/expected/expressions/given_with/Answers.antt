use Rattle.pr_ast.specs.Tree.{tree_of}
use Rattle.pr_group.specs.spec_meaning.Meaning.{meaning}
use Rattle.pr_unit.proofs.Meant.{may_begin}
use Rattle.pr_unit.proofs.expected.expressions.given_with.Goals as goal

pub returns : goal.returns
returns g c = λ history h.
    let t = tree_of c.args.expr.now in
    c.given_by.ensures (meaning c.args.step history t c.args.time) (c.eval.ensures.answer history (may_begin c.args.head.now history t c.args.time h))
