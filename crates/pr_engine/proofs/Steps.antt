-- Histories and rows, one event further.
use Rattle.std.proofs.Common.{◌≡◌, ℕ, ◌+◌, Bool, true, false, cond, List, [], ◌++◌, Option, Some, None, refl, sym, ap, ◌∙◌, append-nil, true≢false}
use Rattle.std.specs.Prelude.{nat_lt}
use Rattle.pr_head.specs.spec_history.declared.entry.Entry.{Entry}
use Rattle.pr_manager.specs.spec_world.private.Laws.{IsNotBefore}
use Rattle.pr_manager.specs.spec_world.Outcome.{EventOutcome, refuse, accept, Change, nothing_else, targets_become, groups_become, reloads, begins_anew, changed_by, unless_backwards}
use Rattle.pr_manager.specs.spec_world.Settings.{Settings}
use Rattle.pr_manager.specs.spec_world.Step.{Step, next, outcome_in_time, step_by, time_of}
use Rattle.pr_manager.specs.spec_world.World.{World}
use Rattle.pr_manager.specs.spec_world.declared.event.Event.{Event}
use Rattle.pr_manager.specs.spec_world.declared.report.Report.TheVariants as report
use Rattle.pr_engine.specs.private.Events.{settings_of, step_in_time}

-- the entries of a step come behind the history
changed_history : (c : Change) (w : World) (time : ℕ) (entries : List Entry) → (changed_by c w time entries).history ≡ w.history ++ entries
changed_history nothing_else w time entries = refl
changed_history (targets_become targets) w time entries = refl
changed_history (groups_become groups) w time entries = refl
changed_history (reloads groups) w time entries = refl
changed_history begins_anew w time entries = refl

pub stepped_history : (w : World) (time : ℕ) (o : EventOutcome) → (step_by w time o).world.history ≡ w.history ++ (step_by w time o).rows
stepped_history w time (refuse report) = sym (append-nil w.history)
stepped_history w time (accept report entries change) = changed_history change w time entries

-- the time of the last event
changed_last : (c : Change) (w : World) (time : ℕ) (entries : List Entry) → (changed_by c w time entries).last ≡ Some time
changed_last nothing_else w time entries = refl
changed_last (targets_become targets) w time entries = refl
changed_last (groups_become groups) w time entries = refl
changed_last (reloads groups) w time entries = refl
changed_last begins_anew w time entries = refl

pub stepped_last : (w : World) (time : ℕ) (o : EventOutcome) → (step_by w time o).world.last ≡ cond (step_by w time o).refused w.last (Some time)
stepped_last w time (refuse report) = refl
stepped_last w time (accept report entries change) = changed_last change w time entries

pub last_in_time : (step : ℕ) (w : World) (e : Event) → (step_in_time step w e).world.last ≡ cond (step_in_time step w e).refused w.last (Some (time_of e))
last_in_time step w e = stepped_last w (time_of e) (outcome_in_time (settings_of step) w e)

-- what is refused adds nothing
refused_adds : (w : World) (time : ℕ) (o : EventOutcome) → (step_by w time o).refused ≡ true → (step_by w time o).rows ≡ []
refused_adds w time (refuse report) is = refl
refused_adds w time (accept report entries change) is = absurd (true≢false (sym is))

pub refused_rows : (step : ℕ) (w : World) (e : Event) → (step_in_time step w e).refused ≡ true → (step_in_time step w e).rows ≡ []
refused_rows step w e is = refused_adds w (time_of e) (outcome_in_time (settings_of step) w e) is

-- an event that is not before the last one
pub first_in_time : (step : ℕ) (w : World) (e : Event) → w.last ≡ None → next (settings_of step) w e ≡ step_in_time step w e
unfolding next
first_in_time step w e none = ap (λ (last : Option ℕ). step_by w (time_of e) (unless_backwards last (time_of e) (outcome_in_time (settings_of step) w e))) none

pub later_in_time : (step : ℕ) (w : World) (e : Event) (last : ℕ) → w.last ≡ Some last → nat_lt (time_of e) last ≡ false → next (settings_of step) w e ≡ step_in_time step w e
unfolding next
later_in_time step w e last is late =
    ap (λ (l : Option ℕ). step_by w (time_of e) (unless_backwards l (time_of e) (outcome_in_time (settings_of step) w e))) is
    ∙ ap (λ (b : Bool). step_by w (time_of e) (cond b (refuse (report.Backwards last (time_of e))) (outcome_in_time (settings_of step) w e))) late

pub in_time : (step : ℕ) (w : World) (e : Event) → IsNotBefore w.last (time_of e) → next (settings_of step) w e ≡ step_in_time step w e
in_time step w e h = by w.last refl h where
  by : (last : Option ℕ) → w.last ≡ last → IsNotBefore last (time_of e) → next (settings_of step) w e ≡ step_in_time step w e
  by None is h = first_in_time step w e is
  by (Some last) is h = later_in_time step w e last is h

pub refused_in_time : (step : ℕ) (w : World) (e : Event) → IsNotBefore w.last (time_of e) → (next (settings_of step) w e).refused ≡ true → (step_in_time step w e).refused ≡ true
refused_in_time step w e late is = sym (ap (λ (s : Step). s.refused) (in_time step w e late)) ∙ is

-- an event that is before the last one
pub backwards_refused : (s : Settings) (w : World) (e : Event) (last : ℕ) → w.last ≡ Some last → nat_lt (time_of e) last ≡ true → (next s w e).refused ≡ true
unfolding next
backwards_refused s w e last is early =
    ap (λ (l : Option ℕ). (step_by w (time_of e) (unless_backwards l (time_of e) (outcome_in_time s w e))).refused) is
    ∙ ap (λ (b : Bool). (step_by w (time_of e) (cond b (refuse (report.Backwards last (time_of e))) (outcome_in_time s w e))).refused) early
