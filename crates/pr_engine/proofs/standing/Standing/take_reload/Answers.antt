use Rattle.std.proofs.Common.{◌∙◌, refl, sym, subst}
use Rattle.pr_manager.specs.private.Naming.{passed_by_named}
use Rattle.pr_manager.specs.private.Passing.{ReloadPasses}
use Rattle.pr_manager.specs.private.Rounds.{files_step}
use Rattle.pr_manager.specs.spec_world.declared.event.Event.TheVariants.{Reload}
use Rattle.pr_engine.specs.private.Standing.{KeepsBefore, KeptParts}
use Rattle.pr_engine.proofs.Values.{ruled_keeps, same_parts}
use Rattle.pr_engine.proofs.standing.Standing.take_reload.Goals as goal

pub returns-clause-report : goal.returns-clause-report
returns-clause-report g c = λ step w before.
    let R = g.R.Ranges in
    let kept : KeptParts g.row.R.Denot = record { head = c.self.inside.head; targets = c.self.inside.targets; manager = c.self.inside.manager } in
    let b : KeepsBefore R.fits R.last R.passed step kept w c.args.time = subst (λ (k : KeptParts g.row.R.Denot). KeepsBefore R.fits R.last R.passed step k w c.args.time) (sym c.self.view_is) before in
    c.in_ok-answered.ensures.report w b.keeps.groups b.keeps.head.lawful b.keeps.head.holds

pub returns-clause-rows : goal.returns-clause-rows
returns-clause-rows g c = λ step w before.
    let R = g.R.Ranges in
    let kept : KeptParts g.row.R.Denot = record { head = c.self.inside.head; targets = c.self.inside.targets; manager = c.self.inside.manager } in
    let b : KeepsBefore R.fits R.last R.passed step kept w c.args.time = subst (λ (k : KeptParts g.row.R.Denot). KeepsBefore R.fits R.last R.passed step k w c.args.time) (sym c.self.view_is) before in
    c.in_ok-answered.ensures.rows w b.keeps.groups b.keeps.head.lawful b.keeps.head.holds

pub returns-clause-world : goal.returns-clause-world
returns-clause-world g c = λ step w before.
    let R = g.R.Ranges in
    let kept : KeptParts g.row.R.Denot = record { head = c.self.inside.head; targets = c.self.inside.targets; manager = c.self.inside.manager } in
    let b : KeepsBefore R.fits R.last R.passed step kept w c.args.time = subst (λ (k : KeptParts g.row.R.Denot). KeepsBefore R.fits R.last R.passed step k w c.args.time) (sym c.self.view_is) before in
    ruled_keeps R.fits R.last R.passed step kept c.reload.new.head c.reload.new.self w (Reload c.args.time c.args.files) refl b c.in_ok-answered.ensures.settings
    (c.in_ok-answered.ensures.head w b.keeps.groups b.keeps.head.lawful b.keeps.head.holds) (c.in_ok-answered.ensures.keeps w b.keeps.groups b.keeps.head.lawful b.keeps.head.holds)

pub returns-clause-passed : goal.returns-clause-passed
returns-clause-passed g c = λ step w before.
    let R = g.R.Ranges in
    let kept : KeptParts g.row.R.Denot = record { head = c.self.inside.head; targets = c.self.inside.targets; manager = c.self.inside.manager } in
    let b : KeepsBefore R.fits R.last R.passed step kept w c.args.time = subst (λ (k : KeptParts g.row.R.Denot). KeepsBefore R.fits R.last R.passed step k w c.args.time) (sym c.self.view_is) before in
    subst (λ (k : KeptParts g.row.R.Denot). ReloadPasses w c.args.time c.args.files (passed_by_named R.passed k.manager w.history)
    (passed_by_named R.passed c.reload.new.self (files_step w c.args.time c.args.files).world.history)) c.self.view_is
    (c.in_ok-answered.ensures.passed w b.keeps.groups b.keeps.head.lawful b.keeps.head.holds)

pub returns-clause-refused : goal.returns-clause-refused
returns-clause-refused g c = λ step w before refused.
    let R = g.R.Ranges in
    let kept : KeptParts g.row.R.Denot = record { head = c.self.inside.head; targets = c.self.inside.targets; manager = c.self.inside.manager } in
    let b : KeepsBefore R.fits R.last R.passed step kept w c.args.time = subst (λ (k : KeptParts g.row.R.Denot). KeepsBefore R.fits R.last R.passed step k w c.args.time) (sym c.self.view_is) before in
    let same = c.in_ok-answered.ensures.refused w b.keeps.groups b.keeps.head.lawful b.keeps.head.holds refused in
    same_parts kept c.reload.new.head c.reload.new.self same.1 same.0 ∙ c.self.view_is
