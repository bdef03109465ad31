-- A reload, as a step of the world.
use Rattle.std.proofs.Common.{◌≡◌, ℕ, Bool, true, false, not, List, [], Result, Ok, Err, IfOk, OnOk, refl, sym, ap, subst, ◌∙◌}
use Rattle.std.specs.Prelude.{find}
use Rattle.std.specs.declared.alloc.AllocError.{AllocError}
use Rattle.spec_world.specs.spec_history.declared.entry.Entry.{Entry}
use Rattle.pr_group.specs.pr_head.private.Intake.{Series}
use Rattle.spec_world.specs.spec_history.private.Laws.{IsLawful}
use Rattle.pr_group.specs.pr_head.private.Holds.{Holds}
use Rattle.pr_group.specs.pr_range.private.Asks.{LastAsks, Passed}
use Rattle.spec_world.specs.spec_rules.Groups.{is_group_named}
use Rattle.spec_world.specs.spec_rules.Reloads.{reload_by, reload_step}
use Rattle.pr_group.specs.private.Keeping.{waits_of}
use Rattle.spec_world.specs.Rounds.{all_loaded, reload_accepted, reload_outcome, reload_outcome_by}
use Rattle.spec_world.specs.Step.{Step, step_by}
use Rattle.spec_world.specs.World.{World}
use Rattle.spec_world.specs.declared.event.NamedFile.{NamedFile}
use Rattle.spec_world.specs.declared.report.Report.{Report}
use Rattle.pr_manager.specs.declared.answered.Answered.{Answered}
use Rattle.pr_manager.specs.private.Keeping.{HasGoneOn, KeepEach, ManagesGroupsOf, KeptManager, settings_in}
use Rattle.pr_manager.specs.private.Loading.{fresh_by, loaded_files}
use Rattle.pr_manager.specs.private.Naming.{passed_by_named}
use Rattle.pr_manager.specs.private.Passing.{ReloadPasses, taken_over_by}
use Rattle.pr_manager.specs.private.Replacing.{HasReplaced}
use Rattle.pr_manager.specs.private.Rounds.{files_step}
use Rattle.pr_manager.proofs.Loaded.{fresh_at}

pub record HasReloaded {R : Type 0} (fits : R → List Entry → Type 0) (last : R → LastAsks) (passed : R → Passed) (w : World) (after : KeptManager R) (old new : Series) (step : Step) (a : Answered) : Type 0 where
  pub report : a.report ≡ step.report
  pub rows : a.added ≡ step.rows
  pub keeps : ManagesGroupsOf fits last passed after step.world
  pub head : HasGoneOn old new w.history step.world.history
  pub accepted : step.refused ≡ false

pub step_accepted : (w : World) (time : ℕ) (files : List NamedFile) (reloaded : Bool) → reloaded ≡ w.reloaded → all_loaded files ≡ Ok (loaded_files files)
    → files_step w time files ≡ step_by w time (reload_accepted w (reload_by w.groups time (fresh_by (waits_of (not reloaded)) (loaded_files files))))
unfolding reload_outcome reload_step
step_accepted w time files reloaded since loaded =
    ap (λ r. step_by w time (reload_outcome_by w time r)) loaded
    ∙ ap (λ gs. step_by w time (reload_accepted w (reload_by w.groups time gs))) (sym (fresh_at w.reloaded (loaded_files files)) ∙ ap (λ b. fresh_by (waits_of (not b)) (loaded_files files)) (sym since))

pub step_refused : (w : World) (time : ℕ) (files : List NamedFile) (r : Report) → all_loaded files ≡ Err r → files_step w time files ≡ record { world = w; report = r; rows = []; refused = true }
unfolding reload_outcome
step_refused w time files r refused = ap (λ x. step_by w time (reload_outcome_by w time x)) refused

reloaded_one : {R : Type 0} (fits : R → List Entry → Type 0) (last : R → LastAsks) (passed : R → Passed) (w : World) (k after : KeptManager R) (old new : Series) (time : ℕ) (files : List NamedFile) (a : Answered)
    → all_loaded files ≡ Ok (loaded_files files) → ManagesGroupsOf fits last passed k w
    → HasReplaced fits last passed (settings_in k) w.history w.groups (reload_by w.groups time (fresh_by (waits_of (not k.reloaded)) (loaded_files files))) old new k.groups after.groups a
    → after.reloaded ≡ true → settings_in after ≡ settings_in k → HasReloaded fits last passed w after old new (files_step w time files) a
reloaded_one fits last passed w k after old new time files a loaded keeps h since settings =
    let step = reload_by w.groups time (fresh_by (waits_of (not k.reloaded)) (loaded_files files)) in
    subst (λ x. HasReloaded fits last passed w after old new x a) (sym (step_accepted w time files k.reloaded keeps.since loaded))
    (record {
      report = h.report;
      rows = h.added;
      keeps = record { each = subst (λ s. KeepEach fits last passed s (step_by w time (reload_accepted w step)).world.history after.groups step.groups) (sym settings) h.keeps; since = since };
      head = h.head;
      accepted = refl;
    })

pub reloaded : {R : Type 0} (fits : R → List Entry → Type 0) (last : R → LastAsks) (passed : R → Passed) (w : World) (k after : KeptManager R) (old new : Series) (time : ℕ) (files : List NamedFile) (result : Result Answered AllocError)
    → all_loaded files ≡ Ok (loaded_files files) → ManagesGroupsOf fits last passed k w
    → IfOk result (HasReplaced fits last passed (settings_in k) w.history w.groups (reload_by w.groups time (fresh_by (waits_of (not k.reloaded)) (loaded_files files))) old new k.groups after.groups)
    → OnOk result (after.reloaded ≡ true) → OnOk result (settings_in after ≡ settings_in k) → IfOk result (HasReloaded fits last passed w after old new (files_step w time files))
reloaded fits last passed w k after old new time files (Err e) loaded keeps h since settings = tt
reloaded fits last passed w k after old new time files (Ok a) loaded keeps h since settings = reloaded_one fits last passed w k after old new time files a loaded keeps h since settings

pub gone_nowhere_from : (head : Series) (history : List Entry) → IsLawful history → Holds head history → HasGoneOn head head history history
gone_nowhere_from head history lawful holds = record { holds = holds; whole = λ x h. h; lawful = lawful }

-- it was refused, and nothing has changed
pub record HasRefused {R : Type 0} (fits : R → List Entry → Type 0) (last : R → LastAsks) (passed : R → Passed) (w : World) (k : KeptManager R) (old : Series) (step : Step) (a : Answered) : Type 0 where
  pub report : a.report ≡ step.report
  pub rows : a.added ≡ step.rows
  pub keeps : ManagesGroupsOf fits last passed k step.world
  pub head : HasGoneOn old old w.history step.world.history

pub refused_all : {R : Type 0} (fits : R → List Entry → Type 0) (last : R → LastAsks) (passed : R → Passed) (w : World) (k : KeptManager R) (old : Series) (time : ℕ) (files : List NamedFile) (result : Result Answered AllocError)
    → ManagesGroupsOf fits last passed k w → IsLawful w.history → Holds old w.history → IfOk result (λ a. all_loaded files ≡ Err a.report) → IfOk result (λ a. a.added ≡ [])
    → IfOk result (HasRefused fits last passed w k old (files_step w time files))
refused_all fits last passed w k old time files (Err e) keeps lawful holds refused none = tt
refused_all fits last passed w k old time files (Ok a) keeps lawful holds refused none =
    subst (λ x. HasRefused fits last passed w k old x a) (sym (step_refused w time files a.report refused))
    (record { report = refl; rows = none; keeps = keeps; head = gone_nowhere_from old w.history lawful holds })

pub never_refused : (b : Bool) → b ≡ false → b ≡ true → ⊥
never_refused b e f = absurd (let clash = sym e ∙ f in cc)

-- What was passed

pub reloaded_passes : {R : Type 0} (fits : R → List Entry → Type 0) (last : R → LastAsks) (passed : R → Passed) (w : World) (k after : KeptManager R) (old new : Series) (time : ℕ) (files : List NamedFile) (result : Result Answered AllocError)
    → all_loaded files ≡ Ok (loaded_files files) → ManagesGroupsOf fits last passed k w
    → IfOk result (HasReplaced fits last passed (settings_in k) w.history w.groups (reload_by w.groups time (fresh_by (waits_of (not k.reloaded)) (loaded_files files))) old new k.groups after.groups)
    → OnOk result (ReloadPasses w time files (passed_by_named passed k w.history) (passed_by_named passed after (files_step w time files).world.history))
reloaded_passes fits last passed w k after old new time files (Err e) loaded keeps h = tt
reloaded_passes fits last passed w k after old new time files (Ok a) loaded keeps h =
    let is = step_accepted w time files k.reloaded keeps.since loaded in
    record {
      accepted = λ x f n.
          subst (λ (y : Step). passed_by_named passed after y.world.history f n ≡ taken_over_by (find (is_group_named f n) w.groups) (find (is_group_named f n) y.world.groups) (passed_by_named passed k w.history f n)) (sym is) (h.passing f n);
      refused = λ x. absurd (never_refused (files_step w time files).refused (ap (λ (y : Step). y.refused) is) x);
    }

pub refused_reload_passes : {R : Type 0} (passed : R → Passed) (w : World) (k : KeptManager R) (time : ℕ) (files : List NamedFile) (result : Result Answered AllocError) → IfOk result (λ a. all_loaded files ≡ Err a.report)
    → OnOk result (ReloadPasses w time files (passed_by_named passed k w.history) (passed_by_named passed k (files_step w time files).world.history))
refused_reload_passes passed w k time files (Err e) refused = tt
refused_reload_passes passed w k time files (Ok a) refused =
    let is = step_refused w time files a.report refused in
    record {
      accepted = λ x. absurd (never_refused (files_step w time files).refused x (ap (λ (y : Step). y.refused) is));
      refused = λ x. ap (λ (y : Step). passed_by_named passed k y.world.history) is;
    }
