use Rattle.std.proofs.Common.{IfOk, sym, ap, ◌∙◌, subst}
use Rattle.spec_rules.specs.Definitions.{rule_of_def}
use Rattle.spec_rules.specs.declared.fault.RuleFailure.{RuleFailure}
use Rattle.spec_rules.specs.Evaluations.{RuleStep, failed_step, rule_outcome}
use Rattle.pr_rule.specs.private.Standing.{HasStepped}
use Rattle.pr_rule.proofs.Stepping.{failed_so, stands_failed, stands_fine_if, step_fine, stepped_failed}
use Rattle.pr_rule.proofs.remembered.Remembered.evaluate.Goals as goal

pub returns-in-Ok-clause-steps : goal.returns-in-Ok-clause-steps
returns-in-Ok-clause-steps g c = λ s group r history is stands holds may.
    let now = c.args.at.now.time in
    let o = c.in-Ok.ensures.offers s group r history is stands.rule stands.templates stands.records may in
    subst (λ (t : RuleStep). IfOk c.tell.result (λ report. HasStepped c.args.at.now.tells c.args.head.now c.tell.new.head c.args.rows.now.items c.tell.new.rows.items report history t))
    (sym (step_fine s group r history now o.0 o.1.0)) (c.tell.ensures.steps history group r o.0 c.outcome.new.records holds stands.previous o.1.1)

pub returns-in-Ok-clause-stands : goal.returns-in-Ok-clause-stands
returns-in-Ok-clause-stands g c = λ s group r history is stands holds may.
    let now = c.args.at.now.time in
    let o = c.in-Ok.ensures.offers s group r history is stands.rule stands.templates stands.records may in
    stands_fine_if c.tell.result c.args.at.now.tells s group r history now o.0 c.in-Ok.offered c.args.self.now.templates c.args.self.now.previous c.tell.new.last c.args.self.now.records c.outcome.new.records (rule_of_def c.args.rule.now)
    stands o.1.0 o.1.1 (c.tell.ensures.wrote history group r o.0 c.outcome.new.records holds stands.previous o.1.1)

pub returns-in-Err-Failed-clause-steps : goal.returns-in-Err-Failed-clause-steps
returns-in-Err-Failed-clause-steps g c = λ s group r history is stands holds may.
    let now = c.args.at.now.time in
    let came = rule_outcome s group r history now in
    let f = failed_so c.args.at.now.tells came c.outcome.new.records group r now c.in-Err-Failed.field-0 c.in-Err-Failed.failure c.in-Err-Failed.field-0-is
    (c.in-Err-Failed.ensures.offers s group r history is stands.rule stands.templates stands.records may) in
    stepped_failed c.args.at.now.tells c.args.head.now c.args.rows.now.items c.failed.result s group r history now c.in-Err-Failed.failure c.outcome.new.records holds f
    (c.failed.ensures r now ∙ ap (λ (x : RuleFailure). (failed_step r now x).report) c.in-Err-Failed.failure-is)

pub returns-in-Err-Failed-clause-stands : goal.returns-in-Err-Failed-clause-stands
returns-in-Err-Failed-clause-stands g c = λ s group r history is stands holds may.
    let now = c.args.at.now.time in
    let came = rule_outcome s group r history now in
    let f = failed_so c.args.at.now.tells came c.outcome.new.records group r now c.in-Err-Failed.field-0 c.in-Err-Failed.failure c.in-Err-Failed.field-0-is
    (c.in-Err-Failed.ensures.offers s group r history is stands.rule stands.templates stands.records may) in
    stands_failed s group r history now c.in-Err-Failed.failure c.args.self.now.templates c.args.self.now.previous c.args.self.now.records c.outcome.new.records (rule_of_def c.args.rule.now) stands f
