use Rattle.std.proofs.Common.{sym, ap, ◌∙◌}
use Rattle.spec_rules.specs.Definitions.{Rule}
use Rattle.pr_rule.proofs.Offering.{records_offered}
use Rattle.pr_rule.proofs.offered.offer.Goals as goal

pub returns-then-rule : goal.returns-then-rule
returns-then-rule c = λ s g r history is same stands rise e.
    let alerting = sym (ap (λ (q : Rule). q.alert) same) ∙ c.if-rule.true in
    c.alerted.ensures s g r history is same alerting (stands alerting) rise e

pub returns : goal.returns
returns c = λ s g r history is same stands rise e.
    let records = sym (ap (λ (q : Rule). q.alert) same) ∙ c.if-rule.false in
    records_offered c.args.at.now.tells c.in_ok-recorded.field-0 c.args.records.now s g r history c.args.at.now.time c.args.founds.items records e c.in_ok-recorded.ensures.samples c.in_ok-recorded.ensures.sent
