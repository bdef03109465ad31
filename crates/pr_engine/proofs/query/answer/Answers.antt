use Rattle.pr_ast.specs.Tree.{tree_of}
use Rattle.pr_manager.specs.spec_meaning.Meaning.{meaning}
use Rattle.pr_engine.proofs.Queries.{may_begin}
use Rattle.pr_engine.proofs.query.answer.Goals as goal

pub returns-clause-report : goal.returns-clause-report
returns-clause-report g c = λ history h.
    let t = tree_of c.args.expression.now in
    c.told_answer.ensures (meaning c.args.step history t c.args.time) (c.eval.ensures.answer history (may_begin c.args.head.now history t c.args.time h c.expr-typed.ensures.checked))

pub returns-clause-reads : goal.returns-clause-reads
returns-clause-reads g c = λ history h.
    c.eval.ensures.reads history (may_begin c.args.head.now history (tree_of c.args.expression.now) c.args.time h c.expr-typed.ensures.checked)
