-- How calls of the engine end, as stops of a run.
use Rattle.std.proofs.Common.{◌≡◌, ℕ, Bool, true, false, cond, List, Option, None, Ok, Err, IfSome, IsSome, IsTrue, refl, ap, ◌∙◌, subst}
use Rattle.pr_engine.specs.private.Causes.{HasApplyCause, IfAnswered, broken_after}
use Rattle.pr_engine.specs.private.StartCauses.{HasStartCause, IfLoaded}
use Rattle.pr_engine.specs.private.Events.{IsKnownAfter, settings_of}
use Rattle.pr_engine.specs.private.Opening.{StartOpens}
use Rattle.pr_engine.specs.private.Standing.{KeptEngine, StandsFor}
use Rattle.pr_outside.specs.spec_history.declared.entry.Entry.{Entry}
use Rattle.pr_engine.specs.pr_range.private.Asks.{LastAsks, Passed}
use Rattle.pr_engine.specs.declared.fault.ApplyError.{ApplyError}
use Rattle.pr_engine.specs.declared.fault.ApplyError.TheVariants as apply
use Rattle.pr_engine.specs.declared.fault.Cause.{Cause}
use Rattle.pr_engine.specs.declared.rows.fault.StartError.{StartError}
use Rattle.pr_engine.specs.declared.rows.fault.StartError.TheVariants as start
use Rattle.pr_outside.specs.Meant.{Store}
use Rattle.pr_outside.specs.spec_history.Histories.{history_of}
use Rattle.pr_outside.specs.Stores.{KeepEnds, KeepsTelling, StartsTelling}
use Rattle.pr_outside.specs.Opening.{OpensBy}
use Rattle.pr_outside.proofs.Ended.{in_time_same}
use Rattle.pr_top.specs.private.Running.{IsRunning}
use Rattle.pr_top.specs.private.EngineStops.{apply_stop, start_stop}
use Rattle.pr_run.specs.spec_world.private.Laws.{is_refusal}
use Rattle.pr_run.specs.spec_world.Settings.{of_a_run}
use Rattle.pr_run.specs.spec_world.Step.{next}
use Rattle.pr_run.specs.spec_world.World.{World}
use Rattle.pr_run.specs.spec_world.declared.event.Event.{Event}
use Rattle.pr_run.specs.spec_world.declared.event.Event.TheVariants as event
use Rattle.pr_run.specs.spec_world.declared.report.Report.{Report}

pub settings_same : (step : ℕ) → step ≡ 60000 → settings_of step ≡ of_a_run
settings_same step is = ap settings_of is

-- where rows are told afterwards, what a restart reads again is known
pub known_after : (e : Event) (store : Store) → IsSome store.rows → IsKnownAfter e store
known_after (event.Add time labels point) store some = tt
known_after (event.Query time text) store some = tt
known_after (event.Scrape time target body) store some = tt
known_after (event.Fail time target) store some = tt
known_after (event.Gone time target) store some = tt
known_after (event.Eval time file group) store some = tt
known_after (event.Reload time files) store some = tt
known_after (event.Restart time) store some = some
known_after (event.Alerts time) store some = tt

-- an answer leaves an engine whole
pub whole_after : (before : Option _) (report : Report) → before ≡ None → broken_after before (Ok report) ≡ None
whole_after before report whole = by (is_refusal report)
  where
    by : (refused : Bool) → cond refused before None ≡ None
    by true = whole
    by false = refl

pub start_ends : (T U : Type 0) (a b : Store) (error : StartError) → HasStartCause {T = T} a.faults b.faults (Err error)
    → ((at : ℕ) → error ≡ start.BadRow at → IfSome b.rows (λ rows. history_of rows ≡ Err at)) → KeepEnds {T = U} a b (Err (start_stop error))
start_ends T U a b start.Memory cause bad = λ others. record { cause = (refl, refl, cause, refl); input = in_time_same others.input.course; files = in_time_same others.files.course; out = in_time_same others.out.course }
start_ends T U a b start.StoreFailed cause bad = λ others. record { cause = (refl, refl, cause.0, refl); input = in_time_same others.input.course; files = in_time_same others.files.course; out = in_time_same others.out.course }
start_ends T U a b (start.BadRow at) cause bad = λ others. record {
  cause = ((refl, refl, cause, refl), bad at refl);
  input = in_time_same others.input.course;
  files = in_time_same others.files.course;
  out = in_time_same others.out.course;
}

pub start_opens : (T U : Type 0) (path : List ℕ) (a b : List (List ℕ)) (error : StartError) → StartOpens {T = T} path a b (Err error) → OpensBy {T = U} path a b (Err (start_stop error))
start_opens T U path a b start.Memory h = h
start_opens T U path a b start.StoreFailed h = h
start_opens T U path a b (start.BadRow at) h = h

pub apply_ends : (T U : Type 0) (a b : Store) (error : ApplyError) → HasApplyCause {T = T} a.faults b.faults (Err error)
    → ((at : ℕ) → error ≡ apply.BadRow at → IfSome b.rows (λ rows. history_of rows ≡ Err at)) → KeepEnds {T = U} a b (Err (apply_stop error))
apply_ends T U a b apply.Memory cause bad = λ others. record { cause = (refl, refl, cause, refl); input = in_time_same others.input.course; files = in_time_same others.files.course; out = in_time_same others.out.course }
apply_ends T U a b apply.StoreFailed cause bad = λ others. record { cause = (refl, refl, cause.0, refl); input = in_time_same others.input.course; files = in_time_same others.files.course; out = in_time_same others.out.course }
apply_ends T U a b (apply.BadRow at) cause bad = λ others. record {
  cause = ((refl, refl, cause, refl), bad at refl);
  input = in_time_same others.input.course;
  files = in_time_same others.files.course;
  out = in_time_same others.out.course;
}
apply_ends T U a b (apply.Broken first) cause bad = λ others. record { cause = (refl, refl, cause, refl); input = in_time_same others.input.course; files = in_time_same others.files.course; out = in_time_same others.out.course }

pub ok_ends : (T : Type 0) (a b : Store) (x : T) → b.faults ≡ a.faults → KeepEnds {T = T} a b (Ok x)
ok_ends T a b x same = λ others. record { cause = (refl, refl, same, refl); input = in_time_same others.input.course; files = λ e. e; out = λ e. e }

-- The report of the engine is that of a run.
pub run_report : {R : Type 0} (fits : R → List Entry → Type 0) (asked : R → LastAsks) (passed : R → Passed) (k : KeptEngine R) (a : Store) (w : World) (e : Event) (report : Report)
    → IsRunning fits asked passed k a w → ((v : World) → StandsFor fits asked passed k a v → report ≡ (next (settings_of k.step) v e).report) → report ≡ (next of_a_run w e).report
run_report fits asked passed k a w e report i told = subst (λ s. report ≡ (next s w e).report) (settings_same k.step i.step) (told w i.stands)

-- It runs on, where rows are told afterwards.
pub runs_on : {R : Type 0} (fits : R → List Entry → Type 0) (asked : R → LastAsks) (passed : R → Passed) (k later : KeptEngine R) (a b : Store) (w : World) (e : Event) (report : Report)
    → IsRunning fits asked passed k a w → IsSome b.rows
    → ((v : World) → StandsFor fits asked passed k a v → IsKnownAfter e b → StandsFor fits asked passed later b (next (settings_of k.step) v e).world)
    → later.broken ≡ broken_after k.broken (Ok report) → later.step ≡ k.step → IsRunning fits asked passed later b (next of_a_run w e).world
runs_on fits asked passed k later a b w e report i some stands broken step = record {
  stands = subst (λ s. StandsFor fits asked passed later b (next s w e).world) (settings_same k.step i.step) (stands w i.stands (known_after e b some));
  whole = broken ∙ whole_after k.broken report i.whole;
  step = step ∙ i.step;
}

-- Told rows stay told, and are told after a start, as long as what the store stands on has kept its word.

pub answer_told : (T : Type 0) (a b : Store) (x : T) → (IsTrue b.sound → IsTrue a.sound) → (IsTrue b.sound → IsSome a.rows → IfAnswered {T = T} (Ok x) (IsSome b.rows))
    → KeepsTelling {T = T} a b (Ok x)
answer_told T a b x sound told = record { sound = sound; told = λ kept some. told kept some }

pub answer_tells : (T U : Type 0) (a b : Store) (error : ApplyError) → (IsTrue b.sound → IsTrue a.sound)
    → (IsTrue b.sound → IsSome a.rows → IfAnswered {T = T} (Err error) (IsSome b.rows)) → KeepsTelling {T = U} a b (Err (apply_stop error))
answer_tells T U a b apply.Memory sound told = record { sound = sound; told = λ kept some. tt }
answer_tells T U a b apply.StoreFailed sound told = record { sound = sound; told = λ kept some. tt }
answer_tells T U a b (apply.BadRow index) sound told = record { sound = sound; told = λ kept some. told kept some }
answer_tells T U a b (apply.Broken first) sound told = record { sound = sound; told = λ kept some. tt }

pub start_told : (T U : Type 0) (a b : Store) (x : T) (y : U) → (IsTrue b.sound → IsTrue a.sound) → (IsTrue b.sound → IfLoaded {T = T} (Ok x) (IsSome b.rows))
    → StartsTelling {T = U} a b (Ok y)
start_told T U a b x y sound told = record { sound = sound; told = λ kept. told kept }

pub start_tells : (T U : Type 0) (a b : Store) (error : StartError) → (IsTrue b.sound → IsTrue a.sound) → (IsTrue b.sound → IfLoaded {T = T} (Err error) (IsSome b.rows))
    → StartsTelling {T = U} a b (Err (start_stop error))
start_tells T U a b start.Memory sound told = record { sound = sound; told = λ kept. tt }
start_tells T U a b start.StoreFailed sound told = record { sound = sound; told = λ kept. tt }
start_tells T U a b (start.BadRow index) sound told = record { sound = sound; told = λ kept. told kept }

-- An answer leaves an engine whole that nothing broke.

pub going_on : (before later : Option Cause) (report : Report) → before ≡ None → later ≡ broken_after before (Ok report) → later ≡ None
going_on before later report whole is = is ∙ whole_after before report whole
