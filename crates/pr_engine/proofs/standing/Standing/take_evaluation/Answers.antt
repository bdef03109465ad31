use Rattle.std.proofs.Common.{◌≡◌, ◌∙◌, ◌+◌, ◌≤◌, true, refl, sym, subst}
use Rattle.pr_manager.specs.private.Naming.{passed_by_named}
use Rattle.pr_manager.specs.private.Passing.{EvaluationPasses}
use Rattle.pr_manager.specs.private.Rounds.{eval_cost, eval_step, admitted_in}
use Rattle.pr_manager.specs.pr_group.private.Keeping.{MayEvaluateOver}
use Rattle.pr_manager.specs.spec_world.Settings.{Settings}
use Rattle.pr_manager.specs.spec_world.declared.event.Event.{Event}
use Rattle.pr_manager.specs.spec_world.declared.event.Event.TheVariants.{Eval}
use Rattle.pr_manager.specs.private.Keeping.{HasGoneOn, ManagesGroupsOf}
use Rattle.pr_engine.specs.private.Events.{settings_of}
use Rattle.pr_engine.specs.private.Standing.{KeepsBefore, KeptParts}
use Rattle.pr_engine.proofs.Values.{evaluated_keeps, may_evaluate, same_parts, told_in_time}
use Rattle.pr_engine.proofs.standing.Standing.take_evaluation.Goals as goal

pub returns-clause-report : goal.returns-clause-report
returns-clause-report g c = λ step w before.
    let R = g.R.Ranges in
    let kept : KeptParts g.row.R.Denot = record { head = c.self.inside.head; targets = c.self.inside.targets; manager = c.self.inside.manager } in
    let b : KeepsBefore R.fits R.last R.passed step kept w c.args.time = subst (λ (k : KeptParts g.row.R.Denot). KeepsBefore R.fits R.last R.passed step k w c.args.time) (sym c.self.view_is) before in
    let may : MayEvaluateOver kept.head w.history c.args.time = may_evaluate kept.head w.last w.history c.args.time b.keeps.head b.in_time in
    subst (λ (s : Settings). c.in_ok-report.report ≡ (eval_step s w c.args.time c.args.file c.args.group).report) b.keeps.settings (c.in_ok-report.ensures.report w b.keeps.groups may)

pub returns-clause-rows : goal.returns-clause-rows
returns-clause-rows g c = λ step w before.
    let R = g.R.Ranges in
    let kept : KeptParts g.row.R.Denot = record { head = c.self.inside.head; targets = c.self.inside.targets; manager = c.self.inside.manager } in
    let b : KeepsBefore R.fits R.last R.passed step kept w c.args.time = subst (λ (k : KeptParts g.row.R.Denot). KeepsBefore R.fits R.last R.passed step k w c.args.time) (sym c.self.view_is) before in
    let may : MayEvaluateOver kept.head w.history c.args.time = may_evaluate kept.head w.last w.history c.args.time b.keeps.head b.in_time in
    subst (λ (s : Settings). admitted_in c.in_ok-report.report ≡ (eval_step s w c.args.time c.args.file c.args.group).rows) b.keeps.settings (c.in_ok-report.ensures.rows w b.keeps.groups may)

pub returns-clause-world : goal.returns-clause-world
returns-clause-world g c = λ step w before.
    let R = g.R.Ranges in
    let kept : KeptParts g.row.R.Denot = record { head = c.self.inside.head; targets = c.self.inside.targets; manager = c.self.inside.manager } in
    let b : KeepsBefore R.fits R.last R.passed step kept w c.args.time = subst (λ (k : KeptParts g.row.R.Denot). KeepsBefore R.fits R.last R.passed step k w c.args.time) (sym c.self.view_is) before in
    let may : MayEvaluateOver kept.head w.history c.args.time = may_evaluate kept.head w.last w.history c.args.time b.keeps.head b.in_time in
    let e : Event = Eval c.args.time c.args.file c.args.group in
    let told = subst (λ (s : Settings). c.in_ok-report.report ≡ (eval_step s w c.args.time c.args.file c.args.group).report) b.keeps.settings (c.in_ok-report.ensures.report w b.keeps.groups may) in
    evaluated_keeps R.fits R.last R.passed step kept c.evaluate.new.head c.forget_unless.new.head c.evaluate.new.self w e c.is_refusal-refused.result refl b c.in_ok-report.ensures.settings
    (subst (λ (s : Settings). HasGoneOn kept.head c.evaluate.new.head w.history (eval_step s w c.args.time c.args.file c.args.group).world.history) b.keeps.settings
    (c.in_ok-report.ensures.head w b.keeps.groups may))
    (subst (λ (s : Settings). ManagesGroupsOf R.fits R.last R.passed c.evaluate.new.self (eval_step s w c.args.time c.args.file c.args.group).world) b.keeps.settings
    (c.in_ok-report.ensures.keeps w b.keeps.groups may))
    (told_in_time step w e c.in_ok-report.report c.is_refusal-refused.result b.in_time told c.is_refusal-refused.ensures)
    c.forget_unless.ensures.keeps c.forget_unless.ensures.still

pub returns-clause-reads : goal.returns-clause-reads
returns-clause-reads g c = λ step w before.
    let R = g.R.Ranges in
    let kept : KeptParts g.row.R.Denot = record { head = c.self.inside.head; targets = c.self.inside.targets; manager = c.self.inside.manager } in
    let b : KeepsBefore R.fits R.last R.passed step kept w c.args.time = subst (λ (k : KeptParts g.row.R.Denot). KeepsBefore R.fits R.last R.passed step k w c.args.time) (sym c.self.view_is) before in
    let may : MayEvaluateOver kept.head w.history c.args.time = may_evaluate kept.head w.last w.history c.args.time b.keeps.head b.in_time in
    subst (λ (k : KeptParts g.row.R.Denot). c.evaluate.new.reads ≤ c.args.reads.now + eval_cost (settings_of step) w c.args.time c.args.file c.args.group (passed_by_named R.passed k.manager w.history c.args.file c.args.group)) c.self.view_is
    (subst (λ (s : Settings). c.evaluate.new.reads ≤ c.args.reads.now + eval_cost s w c.args.time c.args.file c.args.group (passed_by_named R.passed kept.manager w.history c.args.file c.args.group)) b.keeps.settings
    (c.evaluate.ensures.reads w b.keeps.groups may))

pub returns-in_err-report-clause-reads : goal.returns-in_err-report-clause-reads
returns-in_err-report-clause-reads g c = λ step w before.
    let R = g.R.Ranges in
    let kept : KeptParts g.row.R.Denot = record { head = c.self.inside.head; targets = c.self.inside.targets; manager = c.self.inside.manager } in
    let b : KeepsBefore R.fits R.last R.passed step kept w c.args.time = subst (λ (k : KeptParts g.row.R.Denot). KeepsBefore R.fits R.last R.passed step k w c.args.time) (sym c.self.view_is) before in
    let may : MayEvaluateOver kept.head w.history c.args.time = may_evaluate kept.head w.last w.history c.args.time b.keeps.head b.in_time in
    subst (λ (k : KeptParts g.row.R.Denot). c.evaluate.new.reads ≤ c.args.reads.now + eval_cost (settings_of step) w c.args.time c.args.file c.args.group (passed_by_named R.passed k.manager w.history c.args.file c.args.group)) c.self.view_is
    (subst (λ (s : Settings). c.evaluate.new.reads ≤ c.args.reads.now + eval_cost s w c.args.time c.args.file c.args.group (passed_by_named R.passed kept.manager w.history c.args.file c.args.group)) b.keeps.settings
    (c.evaluate.ensures.reads w b.keeps.groups may))

pub returns-clause-passed : goal.returns-clause-passed
returns-clause-passed g c = λ step w before.
    let R = g.R.Ranges in
    let kept : KeptParts g.row.R.Denot = record { head = c.self.inside.head; targets = c.self.inside.targets; manager = c.self.inside.manager } in
    let b : KeepsBefore R.fits R.last R.passed step kept w c.args.time = subst (λ (k : KeptParts g.row.R.Denot). KeepsBefore R.fits R.last R.passed step k w c.args.time) (sym c.self.view_is) before in
    let may : MayEvaluateOver kept.head w.history c.args.time = may_evaluate kept.head w.last w.history c.args.time b.keeps.head b.in_time in
    subst (λ (k : KeptParts g.row.R.Denot). EvaluationPasses R.keeps (settings_of step) w c.args.time c.args.file c.args.group (passed_by_named R.passed k.manager w.history)
    (passed_by_named R.passed c.evaluate.new.self (eval_step (settings_of step) w c.args.time c.args.file c.args.group).world.history)) c.self.view_is
    (subst (λ (s : Settings). EvaluationPasses R.keeps s w c.args.time c.args.file c.args.group (passed_by_named R.passed kept.manager w.history)
    (passed_by_named R.passed c.evaluate.new.self (eval_step s w c.args.time c.args.file c.args.group).world.history)) b.keeps.settings
    (c.in_ok-report.ensures.passed w b.keeps.groups may))

pub returns-clause-refused : goal.returns-clause-refused
returns-clause-refused g c = λ step w before refused.
    let R = g.R.Ranges in
    let kept : KeptParts g.row.R.Denot = record { head = c.self.inside.head; targets = c.self.inside.targets; manager = c.self.inside.manager } in
    let b : KeepsBefore R.fits R.last R.passed step kept w c.args.time = subst (λ (k : KeptParts g.row.R.Denot). KeepsBefore R.fits R.last R.passed step k w c.args.time) (sym c.self.view_is) before in
    let may : MayEvaluateOver kept.head w.history c.args.time = may_evaluate kept.head w.last w.history c.args.time b.keeps.head b.in_time in
    let e : Event = Eval c.args.time c.args.file c.args.group in
    let told = subst (λ (s : Settings). c.in_ok-report.report ≡ (eval_step s w c.args.time c.args.file c.args.group).report) b.keeps.settings (c.in_ok-report.ensures.report w b.keeps.groups may) in
    let same = c.in_ok-report.ensures.refused w b.keeps.groups may
    (subst (λ (s : Settings). (eval_step s w c.args.time c.args.file c.args.group).refused ≡ true) (sym b.keeps.settings) refused) in
    let still = c.forget_unless.ensures.still (told_in_time step w e c.in_ok-report.report c.is_refusal-refused.result b.in_time told c.is_refusal-refused.ensures ∙ refused) in
    same_parts kept c.forget_unless.new.head c.evaluate.new.self (still ∙ same.1) same.0 ∙ c.self.view_is
