-- What is kept stands for the next world.
use Rattle.std.proofs.Common.{◌≡◌, ℕ, ℤ, Bool, true, false, cond, List, [], ◌++◌, Option, Some, Result, Ok, Err, IfOk, OnOk, refl, sym, ap, subst, ◌∙◌, append-nil}
use Rattle.std.specs.Int.Signed.{≤ℤ_refl}
use Rattle.std.specs.declared.alloc.AllocError.{AllocError}
use Rattle.std.proofs.lemmas.List.Elements.{filter_passes}
use Rattle.std.specs.List.{All}
use Rattle.pr_manager.specs.pr_group.private.Keeping.{MayEvaluateOver}
use Rattle.pr_head.specs.private.Holds.{Holds, IsWhole}
use Rattle.pr_head.specs.private.Stored.{Stored, trimmed}
use Rattle.pr_head.specs.declared.timed.Timed.{Timed}
use Rattle.pr_head.proofs.Trimming.{trimmed_at}
use Rattle.pr_head.specs.spec_history.Admission.{put_all}
use Rattle.pr_head.specs.spec_history.private.Laws.{IsLawful}
use Rattle.pr_head.specs.spec_history.Lookback.{is_after}
use Rattle.pr_head.specs.spec_history.declared.entry.Entry.{Entry}
use Rattle.pr_head.proofs.HistoryLawful.{put_all_lawful}
use Rattle.pr_head.specs.private.Intake.{HasTaken, Series}
use Rattle.pr_manager.specs.private.Keeping.{HasGoneOn, ManagesGroups, ManagesGroupsOf, KeptManager, settings_in}
use Rattle.pr_manager.specs.pr_range.private.Asks.{LastAsks, Passed}
use Rattle.pr_engine.specs.private.Knowing.{Knows, Tracked}
use Rattle.pr_manager.specs.spec_world.private.Laws.{IsNotBefore, is_refusal, changes_targets}
use Rattle.pr_manager.specs.spec_world.Outcome.{EventOutcome, refuse, accept, nothing_else, changed_by}
use Rattle.pr_manager.specs.spec_world.Step.{Step, step_by, time_of}
use Rattle.pr_manager.specs.spec_world.Targets.{Target, TargetStep}
use Rattle.pr_manager.specs.spec_world.World.{World}
use Rattle.pr_manager.specs.spec_world.declared.event.Event.{Event}
use Rattle.pr_manager.specs.spec_world.declared.report.Report.{Report}
use Rattle.pr_manager.proofs.WorldRefusals.{refusal_is_told}
use Rattle.pr_manager.proofs.WorldSteps.{targets_stay}
use Rattle.pr_engine.specs.private.Events.{settings_of, step_in_time}
use Rattle.pr_engine.specs.private.Standing.{HoldsNoneUntil, IsHeadOf, KeepsBefore, KeepsWorld, KeptParts}
use Rattle.pr_engine.specs.private.Taken.{HasOutcome, added_in, report_in}
use Rattle.pr_engine.specs.private.Times.{IsKeptAbove, forgotten_at}
use Rattle.pr_engine.specs.declared.taken.Taken.{Taken}
use Rattle.pr_engine.proofs.Steps.{in_time, last_in_time}
use Rattle.pr_engine.proofs.Times.{head_later, kept_later, not_before_itself}

-- what is told of a query, and added by it
report_is : (w : World) (time : ℕ) (o : EventOutcome) (t : Taken) → HasOutcome o t → report_in t ≡ (step_by w time o).report
report_is w time (refuse report) t h = h.0
report_is w time (accept report rows change) t h = h.0

rows_are : (w : World) (time : ℕ) (o : EventOutcome) (t : Taken) → HasOutcome o t → added_in t ≡ (step_by w time o).rows
rows_are w time (refuse report) t h = h.1
rows_are w time (accept report rows change) t h = h.1

pub asked_report : (result : Result Taken AllocError) (w : World) (time : ℕ) (o : EventOutcome) → IfOk result (HasOutcome o) → IfOk result (λ t. report_in t ≡ (step_by w time o).report)
asked_report (Ok t) w time o h = report_is w time o t h
asked_report (Err e) w time o h = tt

pub asked_rows : (result : Result Taken AllocError) (w : World) (time : ℕ) (o : EventOutcome) → IfOk result (HasOutcome o) → IfOk result (λ t. added_in t ≡ (step_by w time o).rows)
asked_rows (Ok t) w time o h = rows_are w time o t h
asked_rows (Err e) w time o h = tt

-- after an event that adds nothing and changes nothing else all is as it was
pub still_keeps : {R : Type 0} (fits : R → List Entry → Type 0) (last : R → LastAsks) (passed : R → Passed) (step : ℕ) (k : KeptParts R) (w : World) (time : ℕ) → KeepsBefore fits last passed step k w time
    → KeepsWorld fits last passed step k (changed_by nothing_else w time [])
still_keeps fits last passed step k w time b =
    let same : w.history ≡ w.history ++ [] = sym (append-nil w.history) in
    record {
      head = subst (λ (l : List Entry). IsHeadOf k.head (Some time) l) same (head_later k.head w.last time w.history b.in_time b.keeps.head);
      targets = b.keeps.targets;
      settings = b.keeps.settings;
      groups = subst (λ (l : List Entry). ManagesGroups fits last passed k.manager l w.groups w.reloaded) same b.keeps.groups;
    }

keeps_asked : {R : Type 0} (fits : R → List Entry → Type 0) (last : R → LastAsks) (passed : R → Passed) (step : ℕ) (k : KeptParts R) (w : World) (time : ℕ) (o : EventOutcome) (t : Taken) → KeepsBefore fits last passed step k w time → HasOutcome o t
    → KeepsWorld fits last passed step k (step_by w time o).world
keeps_asked fits last passed step k w time (refuse report) t b h = b.keeps
keeps_asked fits last passed step k w time (accept report rows change) t b h =
    subst (λ c. KeepsWorld fits last passed step k (changed_by c w time rows)) (sym h.3)
    (subst (λ (l : List Entry). KeepsWorld fits last passed step k (changed_by nothing_else w time l)) (sym h.2) (still_keeps fits last passed step k w time b))

pub asked_keeps : {R : Type 0} (fits : R → List Entry → Type 0) (last : R → LastAsks) (passed : R → Passed) (step : ℕ) (result : Result Taken AllocError) (k : KeptParts R) (w : World) (time : ℕ) (o : EventOutcome) → KeepsBefore fits last passed step k w time
    → IfOk result (HasOutcome o) → OnOk result (KeepsWorld fits last passed step k (step_by w time o).world)
asked_keeps fits last passed step (Ok t) k w time o b h = keeps_asked fits last passed step k w time o t b h
asked_keeps fits last passed step (Err e) k w time o b h = tt

-- what is kept of groups stands for them over each later history
abbrev pub Stays : {R : Type 0} → (R → List Entry → Type 0) → (R → LastAsks) → (R → Passed) → KeptManager R → World → Type 0
Stays fits last passed k w = (more : List Entry) → IsLawful (w.history ++ more) → ManagesGroups fits last passed k (w.history ++ more) w.groups w.reloaded

-- a head holds what was added, and a map knows the targets after it
pub grown_keeps : {R : Type 0} (fits : R → List Entry → Type 0) (last : R → LastAsks) (passed : R → Passed) (step : ℕ) (k : KeptParts R) (head : Series) (tracked : Tracked) (w : World) (time : ℕ) (targets : List Target) (added : List Entry)
    → KeepsBefore fits last passed step k w time → Stays fits last passed k.manager w → IsHeadOf head w.last (w.history ++ added) → Knows tracked targets
    → KeepsWorld fits last passed step (record { head = head; targets = tracked; manager = k.manager })
    (record { history = w.history ++ added; last = Some time; targets = targets; groups = w.groups; reloaded = w.reloaded })
grown_keeps fits last passed step k head tracked w time targets added b stays held knows = record {
  head = head_later head w.last time (w.history ++ added) b.in_time held;
  targets = knows;
  settings = b.keeps.settings;
  groups = stays added held.lawful;
}

-- after an order about a target the head holds what was admitted, and the map knows the targets
-- after it
pub taken_keeps : {R : Type 0} (fits : R → List Entry → Type 0) (last : R → LastAsks) (passed : R → Passed) (step : ℕ) (k : KeptParts R) (head : Series) (tracked : Tracked) (w : World) (time : ℕ) (to : TargetStep)
    → KeepsBefore fits last passed step k w time → Stays fits last passed k.manager w → put_all w.history to.entries ≡ w.history ++ to.answer.admitted
    → HasTaken k.head head w.history to.entries → Knows tracked to.targets
    → KeepsWorld fits last passed step (record { head = head; targets = tracked; manager = k.manager })
    (record { history = w.history ++ to.answer.admitted; last = Some time; targets = to.targets; groups = w.groups; reloaded = w.reloaded })
taken_keeps fits last passed step k head tracked w time to b stays adds taken knows =
    grown_keeps fits last passed step k head tracked w time to.targets to.answer.admitted b stays
    (record {
      holds = subst (λ l. Holds head l) adds taken.holds;
      whole = λ x above. subst (λ l. IsWhole head l x) adds (taken.whole x (b.keeps.head.whole x above));
      lawful = subst IsLawful adds (put_all_lawful w.history to.entries b.keeps.head.lawful);
    }) knows

-- Rules

pub may_evaluate : (head : Series) (last : Option ℕ) (history : List Entry) (time : ℕ) → IsHeadOf head last history → IsNotBefore last time → MayEvaluateOver head history time
may_evaluate head last history time h late =
    record { lawful = h.lawful; holds = h.holds; whole = h.whole (forgotten_at time) (kept_later last time (forgotten_at time) late (≤ℤ_refl (forgotten_at time))) }

targets_are : (step : ℕ) (w : World) (e : Event) → changes_targets e ≡ false → IsNotBefore w.last (time_of e) → (step_in_time step w e).world.targets ≡ w.targets
targets_are step w e changes late = sym (ap (λ (s : Step). s.world.targets) (in_time step w e late)) ∙ targets_stay (settings_of step) w e changes

above_before : (before after : Option ℕ) (time : ℕ) (refused : Bool) (x : ℤ) → IsNotBefore before time → after ≡ cond refused before (Some time) → IsKeptAbove after x → IsKeptAbove before x
above_before before after time true x late is above = subst (λ (l : Option ℕ). IsKeptAbove l x) is above
above_before before after time false x late is above = kept_later before time x late (subst (λ (l : Option ℕ). IsKeptAbove l x) is above)

-- after an order about rules
pub ruled_keeps : {R : Type 0} (fits : R → List Entry → Type 0) (last : R → LastAsks) (passed : R → Passed) (step : ℕ) (k : KeptParts R) (head : Series) (manager : KeptManager R) (w : World) (e : Event) → changes_targets e ≡ false
    → KeepsBefore fits last passed step k w (time_of e) → settings_in manager ≡ settings_in k.manager → HasGoneOn k.head head w.history (step_in_time step w e).world.history
    → ManagesGroupsOf fits last passed manager (step_in_time step w e).world
    → KeepsWorld fits last passed step (record { head = head; targets = k.targets; manager = manager }) (step_in_time step w e).world
ruled_keeps fits last passed step k head manager w e changes b same gone groups =
    let v : World = (step_in_time step w e).world in
    record {
      head = record {
        holds = gone.holds;
        whole = λ x above. gone.whole x (b.keeps.head.whole x (above_before w.last v.last (time_of e) (step_in_time step w e).refused x b.in_time (last_in_time step w e) above));
        lawful = gone.lawful;
      };
      targets = subst (λ (l : List Target). Knows k.targets l) (sym (targets_are step w e changes b.in_time)) b.keeps.targets;
      settings = same ∙ b.keeps.settings;
      groups = groups;
    }

-- and where it was accepted, and the head has forgotten what is seen no more
pub forgotten_keeps : {R : Type 0} (fits : R → List Entry → Type 0) (last : R → LastAsks) (passed : R → Passed) (step : ℕ) (k : KeptParts R) (head : Series) (w : World) (e : Event) → KeepsWorld fits last passed step k (step_in_time step w e).world
    → (step_in_time step w e).refused ≡ false
    → ((last : Option ℕ) (history : List Entry) → IsHeadOf k.head last history → IsNotBefore last (time_of e) → IsHeadOf head (Some (time_of e)) history)
    → KeepsWorld fits last passed step (record { head = head; targets = k.targets; manager = k.manager }) (step_in_time step w e).world
forgotten_keeps fits last passed step k head w e keeps accepted forgets =
    let v : World = (step_in_time step w e).world in
    let now : v.last ≡ Some (time_of e) = last_in_time step w e ∙ ap (λ (b : Bool). cond b w.last (Some (time_of e))) accepted in
    record {
      head = subst (λ (l : Option ℕ). IsHeadOf head l v.history) (sym now)
          (forgets (Some (time_of e)) v.history (subst (λ (l : Option ℕ). IsHeadOf k.head l v.history) now keeps.head) (not_before_itself (time_of e)));
      targets = keeps.targets;
      settings = keeps.settings;
      groups = keeps.groups;
    }

-- so unless it was refused
pub evaluated_keeps : {R : Type 0} (fits : R → List Entry → Type 0) (last : R → LastAsks) (passed : R → Passed) (step : ℕ) (k : KeptParts R) (middle head : Series) (manager : KeptManager R) (w : World) (e : Event) (refused : Bool)
    → changes_targets e ≡ false → KeepsBefore fits last passed step k w (time_of e) → settings_in manager ≡ settings_in k.manager
    → HasGoneOn k.head middle w.history (step_in_time step w e).world.history → ManagesGroupsOf fits last passed manager (step_in_time step w e).world
    → refused ≡ (step_in_time step w e).refused
    → (refused ≡ false → (last : Option ℕ) (history : List Entry) → IsHeadOf middle last history → IsNotBefore last (time_of e) → IsHeadOf head (Some (time_of e)) history)
    → (refused ≡ true → head ≡ middle)
    → KeepsWorld fits last passed step (record { head = head; targets = k.targets; manager = manager }) (step_in_time step w e).world
evaluated_keeps fits last passed step k middle head manager w e true changes b same gone groups is forgets still =
    subst (λ (h : Series). KeepsWorld fits last passed step (record { head = h; targets = k.targets; manager = manager }) (step_in_time step w e).world) (sym (still refl))
    (ruled_keeps fits last passed step k middle manager w e changes b same gone groups)
evaluated_keeps fits last passed step k middle head manager w e false changes b same gone groups is forgets still =
    forgotten_keeps fits last passed step (record { head = middle; targets = k.targets; manager = manager }) head w e
    (ruled_keeps fits last passed step k middle manager w e changes b same gone groups) (sym is) (forgets refl)

-- what is told says whether it was refused
pub told_in_time : (step : ℕ) (w : World) (e : Event) (r : Report) (refused : Bool) → IsNotBefore w.last (time_of e) → r ≡ (step_in_time step w e).report → refused ≡ is_refusal r
    → refused ≡ (step_in_time step w e).refused
told_in_time step w e r refused late told is =
    let same = in_time step w e late in
    is ∙ ap is_refusal told ∙ sym (ap (λ (s : Step). is_refusal s.report) same) ∙ refusal_is_told (settings_of step) w e ∙ ap (λ (s : Step). s.refused) same

-- what is kept is as it was, where the head and the groups are
pub same_parts : {R : Type 0} (k : KeptParts R) (head : Series) (manager : KeptManager R) → head ≡ k.head → manager ≡ k.manager → record { head = head; targets = k.targets; manager = manager } ≡ k
same_parts k head manager h m = λ i. record { head = h i; targets = k.targets; manager = m i }

-- A head of which samples are forgotten

pub none_until : (head : Series) (x : ℤ) → HoldsNoneUntil (trimmed x head) x
none_until head x = λ i e at.
    let found = trimmed_at x head i e at in
    subst (λ (s : Stored). All (λ (t : Timed). is_after x t.time ≡ true) s.held) found.1.1 (filter_passes (λ (t : Timed). is_after x t.time) found.0.held)

pub still_whole : (head : Series) (last : Option ℕ) (time : ℕ) (history : List Entry) → IsHeadOf head last history → IsNotBefore last time → (x : ℤ) → IsKeptAbove (Some time) x → IsWhole head history x
still_whole head last time history h late x above = h.whole x (kept_later last time x late above)
