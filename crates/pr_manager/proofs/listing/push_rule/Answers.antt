use Rattle.std.proofs.Common.{◌≡◌, ◌++◌, true, false, List, map, ap, ◌∙◌}
use Rattle.std.specs.Prelude.{filter}
use Rattle.spec_world.specs.spec_alerts.declared.record.Record.{Record}
use Rattle.spec_world.specs.spec_alerts.Records.{is_living}
use Rattle.spec_world.specs.Rounds.{alert_line, rule_alerts}
use Rattle.pr_manager.proofs.Listed.{alerting, listed_none, listed_some, on_on}
use Rattle.pr_manager.proofs.listing.push_rule.Goals as goal

pub returns-in-Some : goal.returns-in-Some
returns-in-Some g c = λ history it r keeps at.
    let rs = c.in-Some.records.now in
    let lines = c.args.lines.now in
    let more = c.push_living.new.lines in
    let alert = alerting it c.args.rule r true at (c.in-Some.ensures.some history it keeps) in
    let is = c.records_of_a_lineage_stand_for_it.ensures.alone rs r.lineage (c.in-Some.ensures.stands history it r keeps at) in
    on_on (more ≡ lines ++ map alert_line (filter is_living c.list.result.now)) (more ≡ lines ++ map alert_line (rule_alerts r)) c.push_living.result
    (λ h. listed_some lines more r rs alert is (h ∙ ap (λ (l : List Record). lines ++ map alert_line (filter is_living l)) c.list.ensures)) c.push_living.ensures

pub returns-in-None : goal.returns-in-None
returns-in-None g c = λ history it r keeps at. listed_none c.args.lines.now r (alerting it c.args.rule r false at (c.in-None.ensures.some history it keeps))
