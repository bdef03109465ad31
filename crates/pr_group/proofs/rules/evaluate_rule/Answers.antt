use Rattle.std.proofs.Common.{false}
use Rattle.pr_ast.specs.Tree.{tree_of}
use Rattle.pr_rule.specs.spec_rules.Definitions.{rule_of_def}
use Rattle.pr_rule.specs.pr_eval.private.Evaluated.{passed_outside}
use Rattle.pr_group.proofs.Ruling.{may_begin, rule_done_if, rule_reads}
use Rattle.pr_group.proofs.rules.evaluate_rule.Goals as goal

pub returns-clause-done : goal.returns-clause-done
returns-clause-done g c = λ s group r history until is over early kept.
    let at = c.args.at.now in
    let R = g.R.Ranges in
    let may = may_begin c.args.head.now history (tree_of c.args.definition.now.expr) at.time (R.fits c.args.kept.now.ranges history) (R.last c.args.kept.now.ranges) until over c.expr-checked.ensures.checked kept.truly kept.asked early in
    rule_done_if c.evaluate.result R.fits R.last R.passed R.keeps at.tells g.met.R.Ranges.stays at.step s group r history at.time until c.args.definition.now c.args.kept.now c.evaluate.new.self c.args.head.now c.evaluate.new.head c.args.rows.now.items c.evaluate.new.rows.items
    is.step over early kept
    (c.evaluate.ensures.steps s group r history is kept.stands over.holds may)
    (c.evaluate.ensures.stands s group r history is kept.stands over.holds may)
    (c.evaluate.ensures.fits history may)
    (c.evaluate.ensures.asked history may)

pub returns-clause-reads : goal.returns-clause-reads
returns-clause-reads g c = λ s group r history until is over early kept.
    let at = c.args.at.now in
    let R = g.R.Ranges in
    let may = may_begin c.args.head.now history (tree_of c.args.definition.now.expr) at.time (R.fits c.args.kept.now.ranges history) (R.last c.args.kept.now.ranges) until over c.expr-checked.ensures.checked kept.truly kept.asked early in
    rule_reads at.step s (rule_of_def c.args.definition.now) r.rule history (λ k labels. passed_outside false history (R.passed c.args.kept.now.ranges) k labels) at.time c.args.reads.now c.evaluate.new.reads is.step kept.stands.rule
    (c.evaluate.ensures.reads history may)
