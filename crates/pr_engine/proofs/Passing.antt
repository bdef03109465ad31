-- What was passed of groups, one event further.
use Rattle.std.proofs.Common.{◌≡◌, ℕ, Bool, true, List, [], ◌∷◌, ◌++◌, None, Result, Ok, Err, IfOk, OnOk, refl, sym, ap, ◌∙◌, append-nil}
use Rattle.std.specs.List.{AllZip}
use Rattle.std.specs.declared.alloc.AllocError.{AllocError}
use Rattle.pr_head.specs.spec_history.declared.entry.Entry.{Entry}
use Rattle.pr_manager.specs.pr_range.private.Asks.{LastAsks, Passed}
use Rattle.pr_manager.specs.spec_rules.Groups.{Group}
use Rattle.pr_manager.specs.pr_group.private.Keeping.{KeptGroup}
use Rattle.pr_manager.specs.private.Keeping.{KeepsUnder, KeptManager, settings_in}
use Rattle.pr_manager.specs.private.Naming.{kept_named, passed_by_any, passed_by_named}
use Rattle.pr_manager.specs.private.Passing.{PassedByNames}
use Rattle.pr_outside.specs.Meant.{Store}
use Rattle.pr_manager.specs.spec_world.Outcome.{EventOutcome, refuse, accept, nothing_else, changed_by}
use Rattle.pr_manager.specs.spec_world.Step.{step_by}
use Rattle.pr_manager.specs.spec_world.World.{World}
use Rattle.pr_manager.specs.spec_world.declared.event.Event.{Event}
use Rattle.pr_manager.specs.spec_world.declared.event.Event.TheVariants as event
use Rattle.pr_engine.specs.private.Events.{is_restart, step_in_time}
use Rattle.pr_engine.specs.private.Passing.{EventPasses, no_group_passed}
use Rattle.pr_engine.specs.private.Standing.{Begins, KeptParts}
use Rattle.pr_engine.specs.private.Taken.{HasOutcome}
use Rattle.pr_engine.specs.declared.taken.Taken.{Taken}

-- where there are no groups, nothing was passed
of_none : {R : Type 0} (passed : R → Passed) (history : List Entry) (Q : KeptGroup R → Group → Type 0) (ks : List (KeptGroup R)) → AllZip Q ks []
    → (f n : List ℕ) → passed_by_any passed history (kept_named f n ks) ≡ no_group_passed f n
of_none passed history Q [] all f n = refl
of_none passed history Q (k ∷ ks) all f n = absurd all

pub begun_passes : {R : Type 0} (fits : R → List Entry → Type 0) (asked : R → LastAsks) (passed : R → Passed) (step : ℕ) (k : KeptParts R) (store : Store) → Begins fits asked passed step k store
    → (history : List Entry) → passed_by_named passed k.manager history ≡ no_group_passed
begun_passes fits asked passed step k store b history = λ i f n. of_none passed history (KeepsUnder fits asked passed (settings_in k.manager) b.history) k.manager.groups (b.keeps None).groups.each f n i

-- so after a restart
pub anew_passes : (remembers : Bool) (step : ℕ) (w : World) (e : Event) (before after : PassedByNames) → is_restart e ≡ true → after ≡ no_group_passed → EventPasses remembers step w e before after
anew_passes remembers step w (event.Add time labels point) before after is none = absurd cc
anew_passes remembers step w (event.Query time text) before after is none = absurd cc
anew_passes remembers step w (event.Scrape time target body) before after is none = absurd cc
anew_passes remembers step w (event.Fail time target) before after is none = absurd cc
anew_passes remembers step w (event.Gone time target) before after is none = absurd cc
anew_passes remembers step w (event.Eval time file group) before after is none = absurd cc
anew_passes remembers step w (event.Reload time files) before after is none = absurd cc
anew_passes remembers step w (event.Restart time) before after is none = none
anew_passes remembers step w (event.Alerts time) before after is none = absurd cc

-- what adds nothing leaves the history
asked_history : (w : World) (time : ℕ) (o : EventOutcome) (t : Taken) → HasOutcome o t → (step_by w time o).world.history ≡ w.history
asked_history w time (refuse report) t h = refl
asked_history w time (accept report rows change) t h =
    ap (λ c. (changed_by c w time rows).history) h.3 ∙ ap (λ (l : List Entry). w.history ++ l) h.2 ∙ append-nil w.history

pub asked_passes : {R : Type 0} (passed : R → Passed) (k : KeptManager R) (result : Result Taken AllocError) (w : World) (time : ℕ) (o : EventOutcome) → IfOk result (HasOutcome o)
    → OnOk result (passed_by_named passed k (step_by w time o).world.history ≡ passed_by_named passed k w.history)
asked_passes passed k (Ok t) w time o h = ap (passed_by_named passed k) (asked_history w time o t h)
asked_passes passed k (Err e) w time o h = tt

pub listed_passes : {R : Type 0} (passed : R → Passed) (k : KeptManager R) (step : ℕ) (w : World) (time : ℕ) → passed_by_named passed k (step_in_time step w (event.Alerts time)).world.history ≡ passed_by_named passed k w.history
listed_passes passed k step w time = ap (passed_by_named passed k) (append-nil w.history)
