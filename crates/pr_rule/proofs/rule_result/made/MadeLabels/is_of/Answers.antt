use Rattle.std.proofs.Common.{sym, ◌∙◌}
use Rattle.pr_rule.proofs.Making.{same_rule}
use Rattle.pr_rule.proofs.rule_result.made.MadeLabels.is_of.Goals as goal

pub returns-then-eq : goal.returns-then-eq
returns-then-eq c = λ h.
    sym c.self.view_is
    ∙ same_rule c.self.inside.name c.args.rule.now.name c.self.inside.labels c.args.rule.now.labels c.as_slice.result.now c.as_slice-then-eq.result.now (sym c.eq.ensures ∙ c.if-eq.true)
    c.as_slice.ensures c.as_slice-then-eq.ensures (sym c.eq-then-eq.ensures ∙ h)
