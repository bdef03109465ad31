use Rattle.std.proofs.Common.{◌≡◌, true, ℕ, ◌+◌, ◌≤◌, List, Option, OnOk, length, map, ap, ◌∙◌}
use Rattle.std.specs.Prelude.{IfOk, flat_map, sum_by}
use Rattle.pr_rule.specs.spec_history.declared.entry.Entry.{Entry}
use Rattle.pr_rule.specs.spec_rules.declared.definitions.GroupDef.{GroupDef}
use Rattle.pr_rule.specs.spec_rules.declared.definitions.RuleDef.{RuleDef}
use Rattle.pr_rule.specs.spec_rules.private.Costs.{restored_reads}
use Rattle.pr_rule.specs.spec_rules.Evaluations.{restores, with_restored}
use Rattle.pr_rule.specs.spec_rules.Groups.{RuleState}
use Rattle.pr_rule.specs.declared.remembered.Remembered.{Remembered}
use Rattle.pr_group.specs.private.Keeping.{AreKept, KeptGroup, MayEvaluateOver}
use Rattle.pr_group.proofs.Ending.{through}
use Rattle.pr_group.proofs.group.GroupOver.restore_all.Goals as goal

pub returns-clause-kept : goal.returns-clause-kept
returns-clause-kept g c =
    let R = g.R.Ranges in
    let now = c.args.time in
    through c.as_slice.result.now c.args.self.now.def.rules c.self.inside.rules.items c.args.self.now.rules
    (λ (ds : List RuleDef) (ms : List (Remembered _)). (history : List Entry) (until : Option ℕ) (rs : List RuleState) → MayEvaluateOver c.args.head.now history now → length ds ≡ length rs → AreKept R.fits R.last R.passed history until ds ms rs
    → OnOk c.restore_rules.result (AreKept R.fits R.last R.passed history until ds c.restore_rules.new.rules.items (map (with_restored history now) rs)))
    (c.as_slice.ensures ∙ ap (λ (d : GroupDef). d.rules) c.deref.ensures ∙ ap (λ (k : KeptGroup _). k.def.rules) c.self.view_is) (ap (λ (k : KeptGroup _). k.rules) c.self.view_is) c.restore_rules.ensures.kept

pub returns-clause-told : goal.returns-clause-told
returns-clause-told g c =
    let R = g.R.Ranges in
    let now = c.args.time in
    through c.as_slice.result.now c.args.self.now.def.rules c.self.inside.rules.items c.args.self.now.rules
    (λ (ds : List RuleDef) (ms : List (Remembered _)). (history : List Entry) (until : Option ℕ) (rs : List RuleState) → MayEvaluateOver c.args.head.now history now → length ds ≡ length rs → AreKept R.fits R.last R.passed history until ds ms rs
    → IfOk c.restore_rules.result (λ v. c.args.tells ≡ true → v.items ≡ flat_map (restores history now) rs))
    (c.as_slice.ensures ∙ ap (λ (d : GroupDef). d.rules) c.deref.ensures ∙ ap (λ (k : KeptGroup _). k.def.rules) c.self.view_is) (ap (λ (k : KeptGroup _). k.rules) c.self.view_is) c.restore_rules.ensures.told

pub returns-clause-reads : goal.returns-clause-reads
returns-clause-reads g c =
    let R = g.R.Ranges in
    let now = c.args.time in
    through c.as_slice.result.now c.args.self.now.def.rules c.self.inside.rules.items c.args.self.now.rules
    (λ (ds : List RuleDef) (ms : List (Remembered _)). (history : List Entry) (until : Option ℕ) (rs : List RuleState) → MayEvaluateOver c.args.head.now history now → length ds ≡ length rs → AreKept R.fits R.last R.passed history until ds ms rs
    → c.restore_rules.new.reads ≤ c.args.reads.now + sum_by restored_reads rs)
    (c.as_slice.ensures ∙ ap (λ (d : GroupDef). d.rules) c.deref.ensures ∙ ap (λ (k : KeptGroup _). k.def.rules) c.self.view_is) (ap (λ (k : KeptGroup _). k.rules) c.self.view_is) c.restore_rules.ensures.reads
