use Rattle.std.proofs.Common.{ℕ, ◌<◌, sym, subst}
use Rattle.pr_rule.specs.spec_alerts.Restoring.{restored_time}
use Rattle.pr_group.specs.private.Restoring.{OnlyChanges}
use Rattle.pr_group.proofs.Restored.{moved_not, moved_so, only_moved}
use Rattle.pr_group.proofs.restoring.move_alert.Goals as goal

pub returns-then-not-restore-clause-restored : goal.returns-then-not-restore-clause-restored
returns-then-not-restore-clause-restored g c = λ lineage r stands at living own.
    moved_not (restored_time c.args.hold c.args.sample.now.point c.args.sample.now.time c.args.now) c.restore.result r lineage c.restore.new.self.records c.restore.ensures.moved c.if-not-restore.true
    (c.restore.ensures.stands lineage r stands at living)

pub returns-then-not-restore-clause-only : goal.returns-then-not-restore-clause-only
returns-then-not-restore-clause-only g c =
    only_moved c.args.index c.args.kept.now.records c.restore.new.self.records (restored_time c.args.hold c.args.sample.now.point c.args.sample.now.time c.args.now) c.requires.in_range c.restore.ensures.records

pub active_at-active-requires : goal.active_at-active-requires
active_at-active-requires g c =
    let only : OnlyChanges c.args.index c.args.kept.now.records c.restore.new.self.records =
    only_moved c.args.index c.args.kept.now.records c.restore.new.self.records (restored_time c.args.hold c.args.sample.now.point c.args.sample.now.time c.args.now) c.requires.in_range c.restore.ensures.records in
    subst (λ (k : ℕ). c.args.index < k) (sym only.many) c.requires.in_range

pub returns-clause-restored : goal.returns-clause-restored
returns-clause-restored g c = λ lineage r stands at living own.
    moved_so (restored_time c.args.hold c.args.sample.now.point c.args.sample.now.time c.args.now) c.restore.result c.args.kept.now.records c.restore.new.self.records c.args.index r c.args.labels c.active_at-active.result lineage at own
    c.restore.ensures.moved c.if-not-restore.false (c.restore.ensures.records r at) c.active_at-active.ensures (c.restore.ensures.stands lineage r stands at living)

pub returns-clause-only : goal.returns-clause-only
returns-clause-only g c =
    only_moved c.args.index c.args.kept.now.records c.restore.new.self.records (restored_time c.args.hold c.args.sample.now.point c.args.sample.now.time c.args.now) c.requires.in_range c.restore.ensures.records
