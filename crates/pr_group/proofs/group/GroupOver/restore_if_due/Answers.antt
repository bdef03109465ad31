use Rattle.std.proofs.Common.{◌≡◌, ◌+◌, ◌≤◌, Bool, true, OnOk, sym, ap, ◌∙◌, subst}
use Rattle.std.specs.Prelude.{IfOk}
use Rattle.pr_rule.specs.spec_rules.private.Costs.{restoring_cost}
use Rattle.pr_group.specs.private.Keeping.{AreKept}
use Rattle.pr_group.specs.private.Restoring.{restored_alerts, restored_rules}
use Rattle.pr_group.proofs.group.GroupOver.restore_if_due.Goals as goal

pub returns-then-not-is_due-clause-kept : goal.returns-then-not-is_due-clause-kept
returns-then-not-is_due-clause-kept g c = λ history until rs over size was.
    subst (λ (b : Bool). AreKept g.R.Ranges.fits g.R.Ranges.last g.R.Ranges.passed history until c.args.self.now.def.rules c.args.self.now.rules (restored_rules b history c.args.time rs)) (sym c.if-not-is_due.true ∙ c.is_due.ensures) was

pub returns-then-not-is_due-clause-told : goal.returns-then-not-is_due-clause-told
returns-then-not-is_due-clause-told g c = λ history until rs over size was read.
    c.new.ensures.items ∙ ap (λ (b : Bool). restored_alerts b history c.args.time rs) (sym c.if-not-is_due.true ∙ c.is_due.ensures)

pub returns-clause-kept : goal.returns-clause-kept
returns-clause-kept g c = λ history until rs over size was.
    subst (λ (b : Bool). OnOk c.restore_all.result (AreKept g.R.Ranges.fits g.R.Ranges.last g.R.Ranges.passed history until c.args.self.now.def.rules c.restore_all.new.self.rules (restored_rules b history c.args.time rs)))
    (sym c.if-not-is_due.false ∙ c.is_due.ensures) (c.restore_all.ensures.kept history until rs over size was)

pub returns-clause-told : goal.returns-clause-told
returns-clause-told g c = λ history until rs over size was.
    subst (λ (b : Bool). IfOk c.restore_all.result (λ v. c.args.tells ≡ true → v.items ≡ restored_alerts b history c.args.time rs)) (sym c.if-not-is_due.false ∙ c.is_due.ensures) (c.restore_all.ensures.told history until rs over size was)

pub returns-clause-reads : goal.returns-clause-reads
returns-clause-reads g c = λ history until rs over size was.
    subst (λ (b : Bool). c.restore_all.new.reads ≤ c.args.reads.now + restoring_cost b rs) (sym c.if-not-is_due.false ∙ c.is_due.ensures) (c.restore_all.ensures.reads history until rs over size was)
