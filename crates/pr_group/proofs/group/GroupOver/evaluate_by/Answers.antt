use Rattle.std.proofs.Common.{[], Some, refl, ◌∙◌}
use Rattle.pr_rule.specs.spec_history.Admission.{put_all}
use Rattle.pr_rule.specs.spec_rules.Evaluations.{all_rules}
use Rattle.pr_group.specs.private.Keeping.{settings_of}
use Rattle.pr_group.proofs.Ending.{gone_of, head_end, keeps_end, kept_end, many_rules, over_end, over_rules, passed_end, reads_end, report_end, waits_same}
use Rattle.pr_group.proofs.group.GroupOver.evaluate_by.Goals as goal

pub returns-in_err-restored-clause-reads : goal.returns-in_err-restored-clause-reads
returns-in_err-restored-clause-reads g c = λ history group over keeps later.
    let R = g.R.Ranges in
    let stays = g.met.R.Ranges.stays in
    let now = c.args.time in
    let k0 = c.args.self.now in
    let k1 = c.evaluate_all.new.self in
    let a0 = c.args.head.now in
    let a1 = c.evaluate_all.new.head in
    let a2 = c.mark_if.new.head in
    let r0 = c.new-rows.result.items in
    let r1 = c.evaluate_all.new.rows.items in
    let r2 = c.mark_if.new.rows.items in
    let told = c.in_ok-told.told.items in
    let h = c.in_ok-told.ensures.come history group over keeps later in
    let p = all_rules (settings_of k0) group history now in
    let over1 = over_rules R.fits R.last R.passed R.keeps c.args.tells stays k0 k1 group history now a0 a1 r0 r1 told over keeps c.evaluate_all.ensures.rest h in
    let marks = c.in_ok-gone.ensures.puts p.history over1.holds in
    let marked = c.in_ok-gone.ensures.marked p.history over1.holds in
    let after = put_all p.history (gone_of group now) in
    let over2 = over_end R.fits R.last R.passed R.keeps c.args.tells stays k0 k1 group history now a0 a1 r0 r1 told over keeps c.evaluate_all.ensures.rest h a2 r2 c.leftovers.result.now [] c.in_ok-gone.gone.items c.leftovers.ensures refl marks marked in
    let kept2 = kept_end R.fits R.last R.passed R.keeps c.args.tells stays k0 k1 group history now a0 a1 r0 r1 told over keeps c.evaluate_all.ensures.rest h a2 r2 c.leftovers.result.now [] c.in_ok-gone.gone.items c.leftovers.ensures refl marks marked in
    let many2 = many_rules R.fits R.last R.passed R.keeps c.args.tells stays k0 k1 group history now a0 a1 r0 r1 told over keeps c.evaluate_all.ensures.rest h in
    reads_end R.passed k0 k1 group history now c.args.reads.now c.evaluate_all.new.reads c.restore_if_due.new.reads (waits_same R.fits R.last R.passed R.keeps c.args.tells stays k0 k1 group history now a0 a1 r0 r1 told over keeps c.evaluate_all.ensures.rest h) (c.evaluate_all.ensures.reads history group over keeps later)
    (c.restore_if_due.ensures.reads after (Some now) p.rules over2 many2 kept2)

pub returns-clause-report : goal.returns-clause-report
returns-clause-report g c = λ history group over keeps later read.
    let R = g.R.Ranges in
    let stays = g.met.R.Ranges.stays in
    let now = c.args.time in
    let k0 = c.args.self.now in
    let k1 = c.evaluate_all.new.self in
    let a0 = c.args.head.now in
    let a1 = c.evaluate_all.new.head in
    let a2 = c.mark_if.new.head in
    let r0 = c.new-rows.result.items in
    let r1 = c.evaluate_all.new.rows.items in
    let r2 = c.mark_if.new.rows.items in
    let told = c.in_ok-told.told.items in
    let h = c.in_ok-told.ensures.come history group over keeps later in
    let p = all_rules (settings_of k0) group history now in
    let over1 = over_rules R.fits R.last R.passed R.keeps c.args.tells stays k0 k1 group history now a0 a1 r0 r1 told over keeps c.evaluate_all.ensures.rest h in
    let marks = c.in_ok-gone.ensures.puts p.history over1.holds in
    let marked = c.in_ok-gone.ensures.marked p.history over1.holds in
    let after = put_all p.history (gone_of group now) in
    let over2 = over_end R.fits R.last R.passed R.keeps c.args.tells stays k0 k1 group history now a0 a1 r0 r1 told over keeps c.evaluate_all.ensures.rest h a2 r2 c.leftovers.result.now [] c.in_ok-gone.gone.items c.leftovers.ensures refl marks marked in
    let kept2 = kept_end R.fits R.last R.passed R.keeps c.args.tells stays k0 k1 group history now a0 a1 r0 r1 told over keeps c.evaluate_all.ensures.rest h a2 r2 c.leftovers.result.now [] c.in_ok-gone.gone.items c.leftovers.ensures refl marks marked in
    let many2 = many_rules R.fits R.last R.passed R.keeps c.args.tells stays k0 k1 group history now a0 a1 r0 r1 told over keeps c.evaluate_all.ensures.rest h in
    (λ i. record { rules = c.new.ensures i; leftovers = c.new-2.ensures i; restored = c.new-3.ensures i; admitted = c.new-4.ensures i }) ∙
    report_end R.fits R.last R.passed R.keeps c.args.tells stays k0 k1 group history now a0 a1 r0 r1 told over keeps c.evaluate_all.ensures.rest h a2 r2 c.leftovers.result.now [] c.in_ok-gone.gone.items c.leftovers.ensures refl marks marked c.in_ok-restored.restored.items c.new-rows.ensures.items (c.in_ok-restored.ensures.told after (Some now) p.rules over2 many2 kept2) read

pub returns-clause-head : goal.returns-clause-head
returns-clause-head g c = λ history group over keeps later.
    let R = g.R.Ranges in
    let stays = g.met.R.Ranges.stays in
    let now = c.args.time in
    let k0 = c.args.self.now in
    let k1 = c.evaluate_all.new.self in
    let a0 = c.args.head.now in
    let a1 = c.evaluate_all.new.head in
    let a2 = c.mark_if.new.head in
    let r0 = c.new-rows.result.items in
    let r1 = c.evaluate_all.new.rows.items in
    let r2 = c.mark_if.new.rows.items in
    let told = c.in_ok-told.told.items in
    let h = c.in_ok-told.ensures.come history group over keeps later in
    let p = all_rules (settings_of k0) group history now in
    let over1 = over_rules R.fits R.last R.passed R.keeps c.args.tells stays k0 k1 group history now a0 a1 r0 r1 told over keeps c.evaluate_all.ensures.rest h in
    let marks = c.in_ok-gone.ensures.puts p.history over1.holds in
    let marked = c.in_ok-gone.ensures.marked p.history over1.holds in
    head_end R.fits R.last R.passed R.keeps c.args.tells stays k0 k1 group history now a0 a1 r0 r1 told over keeps c.evaluate_all.ensures.rest h a2 r2 c.leftovers.result.now [] c.in_ok-gone.gone.items c.leftovers.ensures refl marks marked

pub returns-clause-keeps : goal.returns-clause-keeps
returns-clause-keeps g c = λ history group over keeps later.
    let R = g.R.Ranges in
    let stays = g.met.R.Ranges.stays in
    let now = c.args.time in
    let k0 = c.args.self.now in
    let k1 = c.evaluate_all.new.self in
    let a0 = c.args.head.now in
    let a1 = c.evaluate_all.new.head in
    let a2 = c.mark_if.new.head in
    let r0 = c.new-rows.result.items in
    let r1 = c.evaluate_all.new.rows.items in
    let r2 = c.mark_if.new.rows.items in
    let told = c.in_ok-told.told.items in
    let h = c.in_ok-told.ensures.come history group over keeps later in
    let p = all_rules (settings_of k0) group history now in
    let over1 = over_rules R.fits R.last R.passed R.keeps c.args.tells stays k0 k1 group history now a0 a1 r0 r1 told over keeps c.evaluate_all.ensures.rest h in
    let marks = c.in_ok-gone.ensures.puts p.history over1.holds in
    let marked = c.in_ok-gone.ensures.marked p.history over1.holds in
    let after = put_all p.history (gone_of group now) in
    let over2 = over_end R.fits R.last R.passed R.keeps c.args.tells stays k0 k1 group history now a0 a1 r0 r1 told over keeps c.evaluate_all.ensures.rest h a2 r2 c.leftovers.result.now [] c.in_ok-gone.gone.items c.leftovers.ensures refl marks marked in
    let kept2 = kept_end R.fits R.last R.passed R.keeps c.args.tells stays k0 k1 group history now a0 a1 r0 r1 told over keeps c.evaluate_all.ensures.rest h a2 r2 c.leftovers.result.now [] c.in_ok-gone.gone.items c.leftovers.ensures refl marks marked in
    let many2 = many_rules R.fits R.last R.passed R.keeps c.args.tells stays k0 k1 group history now a0 a1 r0 r1 told over keeps c.evaluate_all.ensures.rest h in
    keeps_end R.fits R.last R.passed R.keeps c.args.tells stays k0 k1 group history now a0 a1 r0 r1 told over keeps c.evaluate_all.ensures.rest h a2 r2 c.leftovers.result.now [] c.in_ok-gone.gone.items c.leftovers.ensures refl marks marked c.restore_if_due.new.self c.go_on.new.self c.restore_if_due.ensures.rest c.go_on.ensures c.restore_if_due.ensures.ranges (c.in_ok-restored.ensures.kept after (Some now) p.rules over2 many2 kept2)

pub returns-clause-reads : goal.returns-clause-reads
returns-clause-reads g c = λ history group over keeps later.
    let R = g.R.Ranges in
    let stays = g.met.R.Ranges.stays in
    let now = c.args.time in
    let k0 = c.args.self.now in
    let k1 = c.evaluate_all.new.self in
    let a0 = c.args.head.now in
    let a1 = c.evaluate_all.new.head in
    let a2 = c.mark_if.new.head in
    let r0 = c.new-rows.result.items in
    let r1 = c.evaluate_all.new.rows.items in
    let r2 = c.mark_if.new.rows.items in
    let told = c.in_ok-told.told.items in
    let h = c.in_ok-told.ensures.come history group over keeps later in
    let p = all_rules (settings_of k0) group history now in
    let over1 = over_rules R.fits R.last R.passed R.keeps c.args.tells stays k0 k1 group history now a0 a1 r0 r1 told over keeps c.evaluate_all.ensures.rest h in
    let marks = c.in_ok-gone.ensures.puts p.history over1.holds in
    let marked = c.in_ok-gone.ensures.marked p.history over1.holds in
    let after = put_all p.history (gone_of group now) in
    let over2 = over_end R.fits R.last R.passed R.keeps c.args.tells stays k0 k1 group history now a0 a1 r0 r1 told over keeps c.evaluate_all.ensures.rest h a2 r2 c.leftovers.result.now [] c.in_ok-gone.gone.items c.leftovers.ensures refl marks marked in
    let kept2 = kept_end R.fits R.last R.passed R.keeps c.args.tells stays k0 k1 group history now a0 a1 r0 r1 told over keeps c.evaluate_all.ensures.rest h a2 r2 c.leftovers.result.now [] c.in_ok-gone.gone.items c.leftovers.ensures refl marks marked in
    let many2 = many_rules R.fits R.last R.passed R.keeps c.args.tells stays k0 k1 group history now a0 a1 r0 r1 told over keeps c.evaluate_all.ensures.rest h in
    reads_end R.passed k0 k1 group history now c.args.reads.now c.evaluate_all.new.reads c.restore_if_due.new.reads (waits_same R.fits R.last R.passed R.keeps c.args.tells stays k0 k1 group history now a0 a1 r0 r1 told over keeps c.evaluate_all.ensures.rest h) (c.evaluate_all.ensures.reads history group over keeps later)
    (c.restore_if_due.ensures.reads after (Some now) p.rules over2 many2 kept2)

pub returns-clause-passed : goal.returns-clause-passed
returns-clause-passed g c = λ history group over keeps later keeping.
    let R = g.R.Ranges in
    let stays = g.met.R.Ranges.stays in
    let now = c.args.time in
    let k0 = c.args.self.now in
    let k1 = c.evaluate_all.new.self in
    let a0 = c.args.head.now in
    let a1 = c.evaluate_all.new.head in
    let a2 = c.mark_if.new.head in
    let r0 = c.new-rows.result.items in
    let r1 = c.evaluate_all.new.rows.items in
    let r2 = c.mark_if.new.rows.items in
    let told = c.in_ok-told.told.items in
    let h = c.in_ok-told.ensures.come history group over keeps later in
    let p = all_rules (settings_of k0) group history now in
    let over1 = over_rules R.fits R.last R.passed R.keeps c.args.tells stays k0 k1 group history now a0 a1 r0 r1 told over keeps c.evaluate_all.ensures.rest h in
    let marks = c.in_ok-gone.ensures.puts p.history over1.holds in
    let marked = c.in_ok-gone.ensures.marked p.history over1.holds in
    passed_end R.fits R.last R.passed R.keeps c.args.tells stays k0 k1 group history now a0 a1 r0 r1 told over keeps c.evaluate_all.ensures.rest h a2 r2 c.leftovers.result.now [] c.in_ok-gone.gone.items c.leftovers.ensures refl marks marked c.restore_if_due.new.self c.go_on.new.self c.restore_if_due.ensures.rest c.go_on.ensures keeps.many keeping c.restore_if_due.ensures.ranges
