use Rattle.std.proofs.Common.{◌≢◌, Bool, Err, subst}
use Rattle.pr_ast.specs.Tree.{tree_of}
use Rattle.spec_rules.specs.spec_meaning.Meaning.{meaning}
use Rattle.pr_eval.specs.private.Evaluated.{AreAllAsked, asks_of, kept_by}
use Rattle.pr_eval.specs.declared.values.error.EvalError.TheVariants as evaluation
use Rattle.pr_rule.proofs.Reckoning.{is_meant}
use Rattle.pr_rule.proofs.outcome.found.Goals as goal

pub returns-clause-comes : goal.returns-clause-comes
returns-clause-comes g c = λ history may templates.
    c.rule_result.ensures.comes (meaning c.args.at.now.step history (tree_of c.args.rule.now.expr) c.args.at.now.time) (c.eval-given.ensures.answer history may) templates

pub returns-clause-asked : goal.returns-clause-asked
returns-clause-asked g c = λ history may some.
    let meant = meaning c.args.at.now.step history (tree_of c.args.rule.now.expr) c.args.at.now.time in
    let known : c.eval-given.result ≢ Err evaluation.Memory = λ e. some (c.rule_result.ensures.memory e) in
    subst (λ (b : Bool). AreAllAsked g.R.Ranges.keeps history b (asks_of history (tree_of c.args.rule.now.expr) c.args.at.now.time) 0
    (kept_by (g.R.Ranges.last c.args.ranges.now) (g.R.Ranges.passed c.args.ranges.now)) (kept_by (g.R.Ranges.last c.eval-given.new.ranges) (g.R.Ranges.passed c.eval-given.new.ranges)))
    (is_meant meant c.eval-given.result (c.eval-given.ensures.answer history may) known)
    (c.eval-given.ensures.asked history may known)
