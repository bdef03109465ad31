use Rattle.std.proofs.Common.{◌≡◌, ◌++◌, List, ◌∙◌, ap, sym, subst}
use Rattle.pr_head.specs.spec_history.Admission.{admit}
use Rattle.pr_manager.specs.spec_world.Step.{entry_of, report_of, rows_by}
use Rattle.pr_head.specs.spec_history.declared.entry.Entry.{Entry}
use Rattle.pr_manager.specs.private.Naming.{passed_by_named}
use Rattle.pr_engine.specs.private.Standing.{KeepsBefore, KeptParts}
use Rattle.pr_engine.proofs.Values.{grown_keeps}
use Rattle.pr_engine.proofs.standing.Standing.take_sample.Goals as goal

pub returns-clause-report : goal.returns-clause-report
returns-clause-report g c = λ step w before.
    let R = g.R.Ranges in
    let kept : KeptParts g.row.R.Denot = record { head = c.self.inside.head; targets = c.self.inside.targets; manager = c.self.inside.manager } in
    let b : KeepsBefore R.fits R.last R.passed step kept w c.args.time = subst (λ (k : KeptParts g.row.R.Denot). KeepsBefore R.fits R.last R.passed step k w c.args.time) (sym c.self.view_is) before in
    c.report_of.ensures ∙ ap report_of (c.in_ok-answer.ensures.answer w.last w.history b.keeps.head)

pub returns-clause-rows : goal.returns-clause-rows
returns-clause-rows g c = λ step w before.
    let R = g.R.Ranges in
    let kept : KeptParts g.row.R.Denot = record { head = c.self.inside.head; targets = c.self.inside.targets; manager = c.self.inside.manager } in
    let b : KeepsBefore R.fits R.last R.passed step kept w c.args.time = subst (λ (k : KeptParts g.row.R.Denot). KeepsBefore R.fits R.last R.passed step k w c.args.time) (sym c.self.view_is) before in
    c.in_ok-added_by.ensures ∙ ap (λ a. rows_by a (entry_of c.args.time c.args.labels c.args.point)) (c.in_ok-answer.ensures.answer w.last w.history b.keeps.head)

pub returns-clause-world : goal.returns-clause-world
returns-clause-world g c = λ step w before.
    let R = g.R.Ranges in
    let kept : KeptParts g.row.R.Denot = record { head = c.self.inside.head; targets = c.self.inside.targets; manager = c.self.inside.manager } in
    let b : KeepsBefore R.fits R.last R.passed step kept w c.args.time = subst (λ (k : KeptParts g.row.R.Denot). KeepsBefore R.fits R.last R.passed step k w c.args.time) (sym c.self.view_is) before in
    grown_keeps R.fits R.last R.passed step kept c.put.new.head kept.targets w c.args.time w.targets
    (rows_by (admit w.history c.args.labels c.args.time c.args.point) (entry_of c.args.time c.args.labels c.args.point)) b
    (λ more lawful. c.kept_groups_stay.ensures.keeps kept.manager w.history more w.groups w.reloaded b.keeps.groups lawful)
    (c.in_ok-answer.ensures.head w.last w.history b.keeps.head) b.keeps.targets

pub returns-clause-passed : goal.returns-clause-passed
returns-clause-passed g c = λ step w before.
    let R = g.R.Ranges in
    let kept : KeptParts g.row.R.Denot = record { head = c.self.inside.head; targets = c.self.inside.targets; manager = c.self.inside.manager } in
    let b : KeepsBefore R.fits R.last R.passed step kept w c.args.time = subst (λ (k : KeptParts g.row.R.Denot). KeepsBefore R.fits R.last R.passed step k w c.args.time) (sym c.self.view_is) before in
    let added : List Entry = rows_by (admit w.history c.args.labels c.args.time c.args.point) (entry_of c.args.time c.args.labels c.args.point) in
    subst (λ (k : KeptParts g.row.R.Denot). passed_by_named R.passed kept.manager (w.history ++ added) ≡ passed_by_named R.passed k.manager w.history) c.self.view_is
    (c.kept_groups_stay.ensures.passed kept.manager w.history added w.groups w.reloaded b.keeps.groups)
