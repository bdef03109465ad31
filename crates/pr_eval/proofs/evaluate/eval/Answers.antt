use Rattle.std.proofs.Common.{◌+◌, ◌≤◌, false, is_ok, subst, sym}
use Rattle.pr_ast.specs.Tree.{tree_of}
use Rattle.pr_range.specs.spec_vectors.declared.range.RangeFn.TheVariants.{PresentOverTime}
use Rattle.spec_meaning.specs.private.Cost.{cost}
use Rattle.spec_meaning.specs.Meaning.{meaning}
use Rattle.pr_eval.specs.private.Answers.{AnswersTo}
use Rattle.pr_eval.specs.private.Evaluated.{AreAllAsked, MayBegin, asks_of, kept_by, passed_outside}
use Rattle.pr_eval.specs.private.Parts.{IsValued}
use Rattle.pr_eval.proofs.Trees.{whole_valued}
use Rattle.pr_eval.proofs.evaluate.eval.Goals as goal

pub eval_at-requires-clause-valued : goal.eval_at-requires-clause-valued
eval_at-requires-clause-valued g c = subst (λ w. IsValued (tree_of w)) (sym c.expr-whole.ensures.same) (whole_valued (tree_of c.args.e.now) c.expr-whole.ensures.checked)

pub returns-clause-answer : goal.returns-clause-answer
returns-clause-answer g c = λ history may.
    let begun = subst (λ w. MayBegin c.args.head.now history (tree_of w) c.args.time (g.R.Ranges.fits c.args.ranges.now history) (g.R.Ranges.last c.args.ranges.now)) (sym c.expr-whole.ensures.same) may in
    subst (λ w. AnswersTo (meaning c.args.step history (tree_of w) c.args.time) c.eval_at.result) c.expr-whole.ensures.same (c.eval_at.ensures.answer history PresentOverTime begun)

pub returns-clause-reads : goal.returns-clause-reads
returns-clause-reads g c = λ history may.
    let begun = subst (λ w. MayBegin c.args.head.now history (tree_of w) c.args.time (g.R.Ranges.fits c.args.ranges.now history) (g.R.Ranges.last c.args.ranges.now)) (sym c.expr-whole.ensures.same) may in
    subst (λ w. c.eval_at.new.reads ≤ c.args.reads.now + cost c.args.step history (passed_outside false history (g.R.Ranges.passed c.args.ranges.now)) (tree_of w) 0 c.args.time) c.expr-whole.ensures.same
    (c.eval_at.ensures.taken history PresentOverTime begun).few

pub returns-clause-fits : goal.returns-clause-fits
returns-clause-fits g c = λ history may.
    let begun = subst (λ w. MayBegin c.args.head.now history (tree_of w) c.args.time (g.R.Ranges.fits c.args.ranges.now history) (g.R.Ranges.last c.args.ranges.now)) (sym c.expr-whole.ensures.same) may in
    (c.eval_at.ensures.taken history PresentOverTime begun).fits

pub returns-clause-asked : goal.returns-clause-asked
returns-clause-asked g c = λ history may other.
    let begun = subst (λ w. MayBegin c.args.head.now history (tree_of w) c.args.time (g.R.Ranges.fits c.args.ranges.now history) (g.R.Ranges.last c.args.ranges.now)) (sym c.expr-whole.ensures.same) may in
    subst (λ w. AreAllAsked g.R.Ranges.keeps history (is_ok c.eval_at.result) (asks_of history (tree_of w) c.args.time) 0 (kept_by (g.R.Ranges.last c.args.ranges.now) (g.R.Ranges.passed c.args.ranges.now))
    (kept_by (g.R.Ranges.last c.eval_at.new.ranges) (g.R.Ranges.passed c.eval_at.new.ranges))) c.expr-whole.ensures.same
    ((c.eval_at.ensures.taken history PresentOverTime begun).asked other)
