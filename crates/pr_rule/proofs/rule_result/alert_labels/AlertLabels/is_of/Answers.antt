use Rattle.std.proofs.Common.{◌≡◌, List, true, false, sym, ap, ◌∙◌}
use Rattle.pr_labels.specs.declared.pair.Pair.{Pair}
use Rattle.pr_labels.specs.Order.{labels_eq}
use Rattle.pr_rule.specs.private.Making.{alert_made}
use Rattle.pr_rule.proofs.Making.{same_alert}
use Rattle.pr_rule.proofs.rule_result.alert_labels.AlertLabels.is_of.Goals as goal
use Rattle.pr_rule.proofs.rule_result.alert_labels.AlertLabels.is_of.Goals.{then-eq, else-eq}

pub returns-then-eq-2 : goal.returns-then-eq-2
returns-then-eq-2 c = λ h.
    let own = c.self.inside in
    let made : own.to ≡ alert_made c.args.name.now c.args.over.now c.args.from.now = elim c.if-eq.branch [
      | then-eq w ↦ same_alert own.name c.args.name.now own.over c.args.over.now own.from c.args.from.now own.to (sym c.eq.ensures ∙ w.if-eq.true)
          (ap (λ (l : List Pair). labels_eq l c.args.over.now) (sym w.as_slice.ensures) ∙ sym w.eq-then-eq.ensures ∙ sym w.value-is ∙ c.if-eq-2.true) (sym c.eq-then-eq-2.ensures ∙ h)
          c.self.invariant
      | else-eq w ↦ (let no : false ≡ true = sym w.if-eq.false ∙ sym w.value-is ∙ c.if-eq-2.true in cc)
    ] in
    sym c.self.view_is ∙ made
