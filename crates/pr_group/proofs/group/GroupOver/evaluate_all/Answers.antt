use Rattle.std.proofs.Common.{◌+◌, ◌≤◌, List, length, refl, sym, ap, ◌∙◌, subst}
use Rattle.std.specs.Prelude.{IfOk, nat_lt}
use Rattle.pr_rule.specs.spec_history.declared.entry.Entry.{Entry}
use Rattle.pr_rule.specs.spec_rules.declared.definitions.GroupDef.{GroupDef}
use Rattle.pr_rule.specs.spec_rules.declared.definitions.RuleDef.{RuleDef}
use Rattle.pr_rule.specs.spec_rules.private.Costs.{rules_cost}
use Rattle.pr_rule.specs.spec_rules.Evaluations.{all_rules, begun}
use Rattle.pr_rule.specs.spec_rules.Groups.{Group}
use Rattle.pr_rule.specs.spec_rules.private.Times.{IsAfter}
use Rattle.pr_group.specs.private.Evaluating.{HasCome, MayEvaluateRules}
use Rattle.pr_group.specs.private.Keeping.{KeepsGroup, KeptGroup, MayEvaluateOver, passed_by, settings_of}
use Rattle.pr_group.proofs.Ending.{may_of}
use Rattle.pr_group.proofs.group.GroupOver.evaluate_all.Goals as goal

pub returns-clause-come : goal.returns-clause-come
returns-clause-come g c =
    let R = g.R.Ranges in
    let now = c.args.time in
    let I = c.self.inside in
    let k : KeptGroup _ = record { def = I.def.value; file = I.file; step = I.step; external = I.external; rules = I.rules.items; last = I.last; waits = I.waits; leftovers = I.leftovers } in
    subst (λ (k : KeptGroup _). (history : List Entry) (group : Group) → MayEvaluateOver c.args.head.now history now → KeepsGroup R.fits R.last R.passed k history group → IsAfter now group.last
    → IfOk c.evaluate_rules.result (λ told. HasCome R.fits R.last R.passed R.keeps c.args.tells (settings_of k) group history now k.def.rules k.rules c.evaluate_rules.new.rules.items c.args.head.now c.evaluate_rules.new.head c.args.rows.now.items c.evaluate_rules.new.rows.items told.items (length group.rules) (all_rules (settings_of k) group history now)))
    c.self.view_is
    (λ history group over keeps later.
    subst (λ (ds : List RuleDef). IfOk c.evaluate_rules.result (λ told. HasCome R.fits R.last R.passed R.keeps c.args.tells (settings_of k) group history now ds I.rules.items c.evaluate_rules.new.rules.items c.args.head.now c.evaluate_rules.new.head c.args.rows.now.items c.evaluate_rules.new.rows.items told.items (length group.rules) (all_rules (settings_of k) group history now)))
    (c.as_slice.ensures ∙ ap (λ (d : GroupDef). d.rules) c.as_ref-def.ensures)
    (c.evaluate_rules.ensures.come (settings_of k) group history group.last
    (subst (λ (ds : List RuleDef). MayEvaluateRules R.fits R.last R.passed I.step I.external c.as_ref-def.result.now.limit c.as_ref-def.result.now.interval (nat_lt 0 I.waits) (settings_of k) group c.args.head.now history now group.last ds I.rules.items) (sym c.as_slice.ensures)
    (subst (λ (d : GroupDef). MayEvaluateRules R.fits R.last R.passed I.step I.external d.limit d.interval (nat_lt 0 I.waits) (settings_of k) group c.args.head.now history now group.last d.rules I.rules.items) (sym c.as_ref-def.ensures)
    (may_of R.fits R.last R.passed k (nat_lt 0 I.waits) group c.args.head.now history now refl over keeps later)))))

pub returns-clause-reads : goal.returns-clause-reads
returns-clause-reads g c =
    let R = g.R.Ranges in
    let now = c.args.time in
    let I = c.self.inside in
    let k : KeptGroup _ = record { def = I.def.value; file = I.file; step = I.step; external = I.external; rules = I.rules.items; last = I.last; waits = I.waits; leftovers = I.leftovers } in
    subst (λ (k : KeptGroup _). (history : List Entry) (group : Group) → MayEvaluateOver c.args.head.now history now → KeepsGroup R.fits R.last R.passed k history group → IsAfter now group.last
    → c.evaluate_rules.new.reads ≤ c.args.reads.now + rules_cost (settings_of k) group now (passed_by R.passed k history) 0 group.rules (begun history))
    c.self.view_is
    (λ history group over keeps later.
    c.evaluate_rules.ensures.reads (settings_of k) group history group.last
    (subst (λ (ds : List RuleDef). MayEvaluateRules R.fits R.last R.passed I.step I.external c.as_ref-def.result.now.limit c.as_ref-def.result.now.interval (nat_lt 0 I.waits) (settings_of k) group c.args.head.now history now group.last ds I.rules.items) (sym c.as_slice.ensures)
    (subst (λ (d : GroupDef). MayEvaluateRules R.fits R.last R.passed I.step I.external d.limit d.interval (nat_lt 0 I.waits) (settings_of k) group c.args.head.now history now group.last d.rules I.rules.items) (sym c.as_ref-def.ensures)
    (may_of R.fits R.last R.passed k (nat_lt 0 I.waits) group c.args.head.now history now refl over keeps later))))
