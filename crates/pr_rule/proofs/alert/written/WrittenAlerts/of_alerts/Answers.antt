use Rattle.std.proofs.Common.{[], sym, ◌∙◌}
use Rattle.pr_rule.proofs.AlertsShared.{all_the_same}
use Rattle.pr_rule.proofs.alert.written.WrittenAlerts.of_alerts.Goals as goal

pub invariant_of-result : goal.invariant_of-result
invariant_of-result c = λ rs h.
    c.in_ok-copies.ensures ∙ c.requires ∙ all_the_same [] c.args.list.now rs (sym c.in_ok-keys_of.ensures ∙ sym h)
