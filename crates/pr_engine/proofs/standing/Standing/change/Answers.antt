use Rattle.std.proofs.Common.{◌≡◌, ◌∙◌, ◌+◌, ◌≤◌, ℕ, true, List, IfOk, OnOk, ap, sym, subst, true≢false}
use Rattle.pr_manager.specs.private.Naming.{passed_by_named}
use Rattle.pr_manager.specs.spec_world.Step.{time_of}
use Rattle.pr_manager.specs.spec_world.declared.event.Event.{Event}
use Rattle.pr_manager.specs.spec_world.declared.event.Event.TheVariants.{Scrape}
use Rattle.pr_engine.specs.private.Events.{event_cost, step_in_time}
use Rattle.pr_engine.specs.private.Passing.{EventPasses}
use Rattle.pr_engine.specs.private.Standing.{KeepsBefore}
use Rattle.pr_engine.specs.private.Taken.{added_in, report_in}
use Rattle.pr_engine.proofs.standing.Standing.change.Goals as goal

pub returns-in-Add-clause-report : goal.returns-in-Add-clause-report
returns-in-Add-clause-report g c = λ w before.
    let R = g.R.Ranges in
    let b = subst (λ (e : Event). KeepsBefore R.fits R.last R.passed c.args.step c.args.self.now w (time_of e)) c.in-Add.is before in
    subst (λ (e : Event). IfOk c.take_sample.result (λ t. report_in t ≡ (step_in_time c.args.step w e).report)) (sym c.in-Add.is)
    (c.take_sample.ensures.report c.args.step w b)

pub returns-in-Add-clause-rows : goal.returns-in-Add-clause-rows
returns-in-Add-clause-rows g c = λ w before.
    let R = g.R.Ranges in
    let b = subst (λ (e : Event). KeepsBefore R.fits R.last R.passed c.args.step c.args.self.now w (time_of e)) c.in-Add.is before in
    subst (λ (e : Event). IfOk c.take_sample.result (λ t. added_in t ≡ (step_in_time c.args.step w e).rows)) (sym c.in-Add.is)
    (c.take_sample.ensures.rows c.args.step w b)

pub returns-in-Scrape-clause-report : goal.returns-in-Scrape-clause-report
returns-in-Scrape-clause-report g c = λ w before.
    let R = g.R.Ranges in
    let b = subst (λ (e : Event). KeepsBefore R.fits R.last R.passed c.args.step c.args.self.now w (time_of e)) c.in-Scrape.is before in
    subst (λ (e : Event). IfOk c.take_scrape.result (λ t. report_in t ≡ (step_in_time c.args.step w e).report)) (sym c.in-Scrape.is)
    (subst (λ (body : List ℕ). IfOk c.take_scrape.result (λ t. report_in t ≡ (step_in_time c.args.step w (Scrape c.in-Scrape.time c.in-Scrape.target body)).report)) c.as_slice.ensures (c.take_scrape.ensures.report c.args.step w b))

pub returns-in-Scrape-clause-rows : goal.returns-in-Scrape-clause-rows
returns-in-Scrape-clause-rows g c = λ w before.
    let R = g.R.Ranges in
    let b = subst (λ (e : Event). KeepsBefore R.fits R.last R.passed c.args.step c.args.self.now w (time_of e)) c.in-Scrape.is before in
    subst (λ (e : Event). IfOk c.take_scrape.result (λ t. added_in t ≡ (step_in_time c.args.step w e).rows)) (sym c.in-Scrape.is)
    (subst (λ (body : List ℕ). IfOk c.take_scrape.result (λ t. added_in t ≡ (step_in_time c.args.step w (Scrape c.in-Scrape.time c.in-Scrape.target body)).rows)) c.as_slice.ensures (c.take_scrape.ensures.rows c.args.step w b))

pub returns-in-Fail-clause-report : goal.returns-in-Fail-clause-report
returns-in-Fail-clause-report g c = λ w before.
    let R = g.R.Ranges in
    let b = subst (λ (e : Event). KeepsBefore R.fits R.last R.passed c.args.step c.args.self.now w (time_of e)) c.in-Fail.is before in
    subst (λ (e : Event). IfOk c.take_failure.result (λ t. report_in t ≡ (step_in_time c.args.step w e).report)) (sym c.in-Fail.is)
    (c.take_failure.ensures.report c.args.step w b)

pub returns-in-Fail-clause-rows : goal.returns-in-Fail-clause-rows
returns-in-Fail-clause-rows g c = λ w before.
    let R = g.R.Ranges in
    let b = subst (λ (e : Event). KeepsBefore R.fits R.last R.passed c.args.step c.args.self.now w (time_of e)) c.in-Fail.is before in
    subst (λ (e : Event). IfOk c.take_failure.result (λ t. added_in t ≡ (step_in_time c.args.step w e).rows)) (sym c.in-Fail.is)
    (c.take_failure.ensures.rows c.args.step w b)

pub returns-in-Gone-clause-report : goal.returns-in-Gone-clause-report
returns-in-Gone-clause-report g c = λ w before.
    let R = g.R.Ranges in
    let b = subst (λ (e : Event). KeepsBefore R.fits R.last R.passed c.args.step c.args.self.now w (time_of e)) c.in-Gone.is before in
    subst (λ (e : Event). IfOk c.take_end.result (λ t. report_in t ≡ (step_in_time c.args.step w e).report)) (sym c.in-Gone.is)
    (c.take_end.ensures.report c.args.step w b)

pub returns-in-Gone-clause-rows : goal.returns-in-Gone-clause-rows
returns-in-Gone-clause-rows g c = λ w before.
    let R = g.R.Ranges in
    let b = subst (λ (e : Event). KeepsBefore R.fits R.last R.passed c.args.step c.args.self.now w (time_of e)) c.in-Gone.is before in
    subst (λ (e : Event). IfOk c.take_end.result (λ t. added_in t ≡ (step_in_time c.args.step w e).rows)) (sym c.in-Gone.is)
    (c.take_end.ensures.rows c.args.step w b)

pub returns-in-Eval-clause-report : goal.returns-in-Eval-clause-report
returns-in-Eval-clause-report g c = λ w before.
    let R = g.R.Ranges in
    let b = subst (λ (e : Event). KeepsBefore R.fits R.last R.passed c.args.step c.args.self.now w (time_of e)) c.in-Eval.is before in
    subst (λ (e : Event). IfOk c.take_evaluation.result (λ t. report_in t ≡ (step_in_time c.args.step w e).report)) (sym c.in-Eval.is)
    (c.take_evaluation.ensures.report c.args.step w b)

pub returns-in-Reload-clause-report : goal.returns-in-Reload-clause-report
returns-in-Reload-clause-report g c = λ w before.
    let R = g.R.Ranges in
    let b = subst (λ (e : Event). KeepsBefore R.fits R.last R.passed c.args.step c.args.self.now w (time_of e)) c.in-Reload.is before in
    subst (λ (e : Event). IfOk c.take_reload.result (λ t. report_in t ≡ (step_in_time c.args.step w e).report)) (sym c.in-Reload.is)
    (c.take_reload.ensures.report c.args.step w b)

pub returns-in-Reload-clause-rows : goal.returns-in-Reload-clause-rows
returns-in-Reload-clause-rows g c = λ w before.
    let R = g.R.Ranges in
    let b = subst (λ (e : Event). KeepsBefore R.fits R.last R.passed c.args.step c.args.self.now w (time_of e)) c.in-Reload.is before in
    subst (λ (e : Event). IfOk c.take_reload.result (λ t. added_in t ≡ (step_in_time c.args.step w e).rows)) (sym c.in-Reload.is)
    (c.take_reload.ensures.rows c.args.step w b)

pub returns-in-Alerts-clause-report : goal.returns-in-Alerts-clause-report
returns-in-Alerts-clause-report g c = λ w before.
    let R = g.R.Ranges in
    let b = subst (λ (e : Event). KeepsBefore R.fits R.last R.passed c.args.step c.args.self.now w (time_of e)) c.in-Alerts.is before in
    subst (λ (e : Event). IfOk c.list_alerts.result (λ t. report_in t ≡ (step_in_time c.args.step w e).report)) (sym c.in-Alerts.is)
    (c.list_alerts.ensures.report c.args.step c.in-Alerts.time w b.keeps)

pub returns-in-Alerts-clause-rows : goal.returns-in-Alerts-clause-rows
returns-in-Alerts-clause-rows g c = λ w before.
    let R = g.R.Ranges in
    let b = subst (λ (e : Event). KeepsBefore R.fits R.last R.passed c.args.step c.args.self.now w (time_of e)) c.in-Alerts.is before in
    subst (λ (e : Event). IfOk c.list_alerts.result (λ t. added_in t ≡ (step_in_time c.args.step w e).rows)) (sym c.in-Alerts.is)
    (c.list_alerts.ensures.rows c.args.step c.in-Alerts.time w)

pub returns-in-Eval-clause-reads : goal.returns-in-Eval-clause-reads
returns-in-Eval-clause-reads g c = λ w before.
    let R = g.R.Ranges in
    let b = subst (λ (e : Event). KeepsBefore R.fits R.last R.passed c.args.step c.args.self.now w (time_of e)) c.in-Eval.is before in
    subst (λ (e : Event). c.take_evaluation.new.reads ≤ c.args.reads.now + event_cost c.args.step (passed_by_named R.passed c.args.self.now.manager w.history) w e) (sym c.in-Eval.is)
    (c.take_evaluation.ensures.reads c.args.step w b)

pub returns-in-Add-clause-passed : goal.returns-in-Add-clause-passed
returns-in-Add-clause-passed g c = λ w before.
    let R = g.R.Ranges in
    let b = subst (λ (e : Event). KeepsBefore R.fits R.last R.passed c.args.step c.args.self.now w (time_of e)) c.in-Add.is before in
    subst (λ (e : Event). OnOk c.take_sample.result (EventPasses R.keeps c.args.step w e (passed_by_named R.passed c.args.self.now.manager w.history) (passed_by_named R.passed c.take_sample.new.self.manager (step_in_time c.args.step w e).world.history))) (sym c.in-Add.is)
    (c.take_sample.ensures.passed c.args.step w b)

pub returns-in-Scrape-clause-passed : goal.returns-in-Scrape-clause-passed
returns-in-Scrape-clause-passed g c = λ w before.
    let R = g.R.Ranges in
    let b = subst (λ (e : Event). KeepsBefore R.fits R.last R.passed c.args.step c.args.self.now w (time_of e)) c.in-Scrape.is before in
    subst (λ (e : Event). OnOk c.take_scrape.result (EventPasses R.keeps c.args.step w e (passed_by_named R.passed c.args.self.now.manager w.history) (passed_by_named R.passed c.take_scrape.new.self.manager (step_in_time c.args.step w e).world.history))) (sym c.in-Scrape.is)
    (subst (λ (body : List ℕ). OnOk c.take_scrape.result (EventPasses R.keeps c.args.step w (Scrape c.in-Scrape.time c.in-Scrape.target body) (passed_by_named R.passed c.args.self.now.manager w.history) (passed_by_named R.passed c.take_scrape.new.self.manager (step_in_time c.args.step w (Scrape c.in-Scrape.time c.in-Scrape.target body)).world.history))) c.as_slice.ensures (c.take_scrape.ensures.passed c.args.step w b))

pub returns-in-Fail-clause-passed : goal.returns-in-Fail-clause-passed
returns-in-Fail-clause-passed g c = λ w before.
    let R = g.R.Ranges in
    let b = subst (λ (e : Event). KeepsBefore R.fits R.last R.passed c.args.step c.args.self.now w (time_of e)) c.in-Fail.is before in
    subst (λ (e : Event). OnOk c.take_failure.result (EventPasses R.keeps c.args.step w e (passed_by_named R.passed c.args.self.now.manager w.history) (passed_by_named R.passed c.take_failure.new.self.manager (step_in_time c.args.step w e).world.history))) (sym c.in-Fail.is)
    (c.take_failure.ensures.passed c.args.step w b)

pub returns-in-Gone-clause-passed : goal.returns-in-Gone-clause-passed
returns-in-Gone-clause-passed g c = λ w before.
    let R = g.R.Ranges in
    let b = subst (λ (e : Event). KeepsBefore R.fits R.last R.passed c.args.step c.args.self.now w (time_of e)) c.in-Gone.is before in
    subst (λ (e : Event). OnOk c.take_end.result (EventPasses R.keeps c.args.step w e (passed_by_named R.passed c.args.self.now.manager w.history) (passed_by_named R.passed c.take_end.new.self.manager (step_in_time c.args.step w e).world.history))) (sym c.in-Gone.is)
    (c.take_end.ensures.passed c.args.step w b)

pub returns-in-Eval-clause-passed : goal.returns-in-Eval-clause-passed
returns-in-Eval-clause-passed g c = λ w before.
    let R = g.R.Ranges in
    let b = subst (λ (e : Event). KeepsBefore R.fits R.last R.passed c.args.step c.args.self.now w (time_of e)) c.in-Eval.is before in
    subst (λ (e : Event). OnOk c.take_evaluation.result (EventPasses R.keeps c.args.step w e (passed_by_named R.passed c.args.self.now.manager w.history) (passed_by_named R.passed c.take_evaluation.new.self.manager (step_in_time c.args.step w e).world.history))) (sym c.in-Eval.is)
    (c.take_evaluation.ensures.passed c.args.step w b)

pub returns-in-Reload-clause-passed : goal.returns-in-Reload-clause-passed
returns-in-Reload-clause-passed g c = λ w before.
    let R = g.R.Ranges in
    let b = subst (λ (e : Event). KeepsBefore R.fits R.last R.passed c.args.step c.args.self.now w (time_of e)) c.in-Reload.is before in
    subst (λ (e : Event). OnOk c.take_reload.result (EventPasses R.keeps c.args.step w e (passed_by_named R.passed c.args.self.now.manager w.history) (passed_by_named R.passed c.take_reload.new.self.manager (step_in_time c.args.step w e).world.history))) (sym c.in-Reload.is)
    (c.take_reload.ensures.passed c.args.step w b)

pub returns-in-Add-clause-refused : goal.returns-in-Add-clause-refused
returns-in-Add-clause-refused g c = λ w before refused. absurd (true≢false (sym refused ∙ ap (λ (e : Event). (step_in_time c.args.step w e).refused) c.in-Add.is))

pub returns-in-Scrape-clause-refused : goal.returns-in-Scrape-clause-refused
returns-in-Scrape-clause-refused g c = λ w before refused. absurd (true≢false (sym refused ∙ ap (λ (e : Event). (step_in_time c.args.step w e).refused) c.in-Scrape.is))

pub returns-in-Fail-clause-refused : goal.returns-in-Fail-clause-refused
returns-in-Fail-clause-refused g c = λ w before refused. absurd (true≢false (sym refused ∙ ap (λ (e : Event). (step_in_time c.args.step w e).refused) c.in-Fail.is))

pub returns-in-Gone-clause-refused : goal.returns-in-Gone-clause-refused
returns-in-Gone-clause-refused g c = λ w before refused. absurd (true≢false (sym refused ∙ ap (λ (e : Event). (step_in_time c.args.step w e).refused) c.in-Gone.is))

pub returns-in-Eval-clause-refused : goal.returns-in-Eval-clause-refused
returns-in-Eval-clause-refused g c = λ w before refused.
    let R = g.R.Ranges in
    let b = subst (λ (e : Event). KeepsBefore R.fits R.last R.passed c.args.step c.args.self.now w (time_of e)) c.in-Eval.is before in
    c.take_evaluation.ensures.refused c.args.step w b (subst (λ (e : Event). (step_in_time c.args.step w e).refused ≡ true) c.in-Eval.is refused)

pub returns-in-Reload-clause-refused : goal.returns-in-Reload-clause-refused
returns-in-Reload-clause-refused g c = λ w before refused.
    let R = g.R.Ranges in
    let b = subst (λ (e : Event). KeepsBefore R.fits R.last R.passed c.args.step c.args.self.now w (time_of e)) c.in-Reload.is before in
    c.take_reload.ensures.refused c.args.step w b (subst (λ (e : Event). (step_in_time c.args.step w e).refused ≡ true) c.in-Reload.is refused)
