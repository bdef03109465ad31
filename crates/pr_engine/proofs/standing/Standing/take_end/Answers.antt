use Rattle.std.proofs.Common.{◌≡◌, ◌++◌, List, sym, subst}
use Rattle.pr_head.specs.spec_history.declared.entry.Entry.{Entry}
use Rattle.pr_manager.specs.private.Naming.{passed_by_named}
use Rattle.pr_engine.specs.private.Standing.{KeepsBefore, KeptParts}
use Rattle.pr_engine.proofs.Values.{taken_keeps}
use Rattle.pr_manager.specs.spec_world.Targets.{gone_step}
use Rattle.pr_manager.proofs.WorldTargeting.{gone_puts}
use Rattle.pr_engine.proofs.standing.Standing.take_end.Goals as goal

pub returns-clause-world : goal.returns-clause-world
returns-clause-world g c = λ step w before.
    let R = g.R.Ranges in
    let kept : KeptParts g.row.R.Denot = record { head = c.self.inside.head; targets = c.self.inside.targets; manager = c.self.inside.manager } in
    let b : KeepsBefore R.fits R.last R.passed step kept w c.args.time = subst (λ (k : KeptParts g.row.R.Denot). KeepsBefore R.fits R.last R.passed step k w c.args.time) (sym c.self.view_is) before in
    taken_keeps R.fits R.last R.passed step kept c.gone.new.head c.gone.new.self w c.args.time (gone_step w.targets w.history c.args.target.now c.args.time) b
    (λ more lawful. c.kept_groups_stay.ensures.keeps kept.manager w.history more w.groups w.reloaded b.keeps.groups lawful)
    (gone_puts w.targets w.history c.args.target.now c.args.time)
    (c.in_ok-ended.ensures.taken w.targets w.history b.keeps.targets b.keeps.head.holds)
    (c.in_ok-ended.ensures.targets w.targets w.history b.keeps.targets b.keeps.head.holds)

pub returns-clause-passed : goal.returns-clause-passed
returns-clause-passed g c = λ step w before.
    let R = g.R.Ranges in
    let kept : KeptParts g.row.R.Denot = record { head = c.self.inside.head; targets = c.self.inside.targets; manager = c.self.inside.manager } in
    let b : KeepsBefore R.fits R.last R.passed step kept w c.args.time = subst (λ (k : KeptParts g.row.R.Denot). KeepsBefore R.fits R.last R.passed step k w c.args.time) (sym c.self.view_is) before in
    let added : List Entry = (gone_step w.targets w.history c.args.target.now c.args.time).answer.admitted in
    subst (λ (k : KeptParts g.row.R.Denot). passed_by_named R.passed kept.manager (w.history ++ added) ≡ passed_by_named R.passed k.manager w.history) c.self.view_is
    (c.kept_groups_stay.ensures.passed kept.manager w.history added w.groups w.reloaded b.keeps.groups)
