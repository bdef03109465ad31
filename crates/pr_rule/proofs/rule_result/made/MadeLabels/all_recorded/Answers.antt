use Rattle.std.proofs.Common.{ℕ, List, IfOk, IfSome, sym, subst}
use Rattle.pr_labels.specs.declared.pair.Pair.{Pair}
use Rattle.pr_rule.specs.declared.rule_result.made.Made.{Made}
use Rattle.pr_rule.specs.private.Making.{AreMade, AreRecorded}
use Rattle.pr_rule.proofs.Remembering.{all_in_order}
use Rattle.pr_rule.proofs.rule_result.made.MadeLabels.all_recorded.Goals as goal

pub returns-then-len-items : goal.returns-then-len-items
returns-then-len-items c =
    let name = c.self.inside.name in
    let labels = c.self.inside.labels in
    let made : AreMade name labels c.deref.result.now = subst (λ (all : List Made). AreMade name labels all) (sym c.deref.ensures.value) c.self.invariant.made in
    subst (λ (s : List ℕ × List Pair). IfOk c.recorded_again.result (λ all. IfSome all (λ v. AreRecorded s.0 s.1 c.args.items.now v.items))) c.self.view_is
    (all_in_order c.recorded_again.result name labels c.deref.result.now c.self.inside.made.items c.args.items.now c.deref.ensures.value (c.self.invariant.rise c.if-self.true)
    (c.recorded_again.ensures.founds name labels made) c.recorded_again.ensures.sets)
