use Rattle.std.proofs.Common.{ap}
use Rattle.spec_rules.specs.Definitions.{Rule}
use Rattle.pr_rule.proofs.Offering.{alerts_exceed, alerts_offered}
use Rattle.pr_rule.proofs.offered.alerted.Goals as goal

pub returns-in_ok-told-in-Ok : goal.returns-in_ok-told-in-Ok
returns-in_ok-told-in-Ok c = λ s g r history is same alerting stands rise e.
    let at = c.args.at.now in
    alerts_offered c.what_is_sent_is_marked.ensures.sent c.what_is_sent_is_marked.ensures.marked c.records_of_a_lineage_stand_for_it.ensures.alone at.tells c.in_ok-told-in-Ok.field-0 s g r history at.time at.limit c.args.rule.now.hold c.args.rule.now.keep at.interval at.waits c.args.founds.items c.evaluate.new.self c.told.new.records
    is.limit (ap (λ (q : Rule). q.hold) same) (ap (λ (q : Rule). q.keep) same) is.interval is.waits alerting e
    (c.in-Ok.ensures.allowed r.lineage (stands) rise) (λ wrote. c.in-Ok.ensures.stands r.lineage wrote stands rise)
    c.in_ok-told-in-Ok.ensures.marked c.in_ok-told-in-Ok.ensures.sent (c.in_ok-told-in-Ok.ensures.samples c.args.founds.items)

pub returns-in-Err-LimitExceeded : goal.returns-in-Err-LimitExceeded
returns-in-Err-LimitExceeded c = λ s g r history is same alerting stands rise e.
    let at = c.args.at.now in
    alerts_exceed c.no_records_stand_after_the_limit.ensures at.tells s g r history at.time at.limit c.args.rule.now.hold c.args.rule.now.keep c.in-Err-LimitExceeded.limit c.in-Err-LimitExceeded.have c.in-Err-LimitExceeded.field-0 c.limit_exceeded.result c.args.founds.items c.evaluate.new.self
    is.limit (ap (λ (q : Rule). q.hold) same) (ap (λ (q : Rule). q.keep) same) alerting e c.in-Err-LimitExceeded.field-0-is (c.in-Err-LimitExceeded.ensures.exceeds r.lineage stands rise) c.limit_exceeded.ensures
