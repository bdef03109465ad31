-- What was passed of groups, before and after an evaluation.
use Rattle.std.proofs.Common.{◌≡◌, ℕ, Bool, true, false, cond, List, [], ◌∷◌, ◌++◌, Option, Some, Result, Ok, Err, OnOk, slice_get, refl, sym, ap, subst, ◌∙◌}
use Rattle.std.specs.Prelude.{IfOk, MatchBool, find, slice_set, ◌&&◌}
use Rattle.std.specs.Str.{bytes_eq}
use Rattle.std.specs.declared.alloc.AllocError.{AllocError}
use Rattle.std.proofs.lemmas.Slice.Eq.{bytes_eq-Decides}
use Rattle.spec_world.specs.spec_history.declared.entry.Entry.{Entry}
use Rattle.spec_world.specs.spec_rules.declared.definitions.GroupDef.{GroupDef}
use Rattle.pr_group.specs.pr_head.private.Intake.{Series}
use Rattle.pr_group.specs.pr_range.private.Asks.{LastAsks, Passed}
use Rattle.spec_world.specs.spec_rules.Evaluations.{group_step}
use Rattle.spec_world.specs.spec_rules.Groups.{Group, is_group_named}
use Rattle.spec_world.specs.spec_rules.Settings.{Settings}
use Rattle.pr_group.specs.private.Keeping.{KeepsGroup, KeptGroup, MayEvaluateOver, passed_by}
use Rattle.spec_world.specs.Step.{Step}
use Rattle.spec_world.specs.World.{World}
use Rattle.spec_world.specs.declared.report.Report.{Report}
use Rattle.pr_manager.specs.private.Coming.{IsEvaluated, IsNotLater, history_with, is_later}
use Rattle.pr_manager.specs.private.Finding.{place_of}
use Rattle.pr_manager.specs.private.Keeping.{KeepEach, ManagesGroupsOf, KeptManager, settings_in}
use Rattle.pr_manager.specs.private.Naming.{is_kept_named, kept_named, passed_by_any, passed_by_named}
use Rattle.pr_manager.specs.private.Passing.{EvaluationPasses, PassedByNames}
use Rattle.pr_manager.specs.private.Rounds.{eval_step}
use Rattle.pr_manager.proofs.Evaluated.{IsKnownAt, IsThere, KnownAt, after_is, came_passed, is_there, not_later_is, same_manager, set_same, step_later, step_not}
use Rattle.pr_manager.proofs.Names.{both}
use Rattle.pr_manager.proofs.Places.{find_other}

-- as much counts as passed over a later history
abbrev pub StaysPassed : {R : Type 0} → (R → List Entry → Type 0) → (R → LastAsks) → (R → Passed) → Type 0
StaysPassed {R} fits last passed = (k : KeptGroup R) (history more : List Entry) (g : Group) → KeepsGroup fits last passed k history g → passed_by passed k (history ++ more) ≡ passed_by passed k history

pub each_stays_passed : {R : Type 0} (fits : R → List Entry → Type 0) (last : R → LastAsks) (passed : R → Passed) → StaysPassed fits last passed → (s : Settings) (history more : List Entry) (f n : List ℕ)
    → (ks : List (KeptGroup R)) (groups : List Group) → KeepEach fits last passed s history ks groups → passed_by_any passed (history ++ more) (kept_named f n ks) ≡ passed_by_any passed history (kept_named f n ks)
each_stays_passed fits last passed stays s history more f n [] [] h = refl
each_stays_passed fits last passed stays s history more f n [] (g ∷ groups) h = absurd h
each_stays_passed fits last passed stays s history more f n (k ∷ ks) [] h = absurd h
each_stays_passed fits last passed stays s history more f n (k ∷ ks) (g ∷ groups) h =
    by (is_kept_named f n k) (each_stays_passed fits last passed stays s history more f n ks groups h.1)
  where
    by : (b : Bool) → passed_by_any passed (history ++ more) (kept_named f n ks) ≡ passed_by_any passed history (kept_named f n ks)
        → passed_by_any passed (history ++ more) (cond b (Some k) (kept_named f n ks)) ≡ passed_by_any passed history (cond b (Some k) (kept_named f n ks))
    by true rest = stays k history more g h.0.keeps
    by false rest = rest

-- A refused evaluation passes nothing.
pub refused_passes : (remembers : Bool) (s : Settings) (w : World) (time : ℕ) (file name : List ℕ) (before after : PassedByNames) → (eval_step s w time file name).refused ≡ true → after ≡ before
    → EvaluationPasses remembers s w time file name before after
refused_passes remembers s w time file name before after refused same = record {
  own = λ g found later does. absurd (let clash : true ≡ false = sym refused ∙ ap (λ (x : Step). x.refused) (step_later s w time file name g found (after_is g.last time later)) in cc);
  others = λ f n other. ap (λ (u : PassedByNames). u f n) same;
  refused = λ e. same;
}

-- An evaluation passes nothing of the other groups.
other_group : {R : Type 0} (file name f n : List ℕ) (k : KeptGroup R) → is_kept_named file name k ≡ true → (bytes_eq file f && bytes_eq name n) ≡ false → is_kept_named f n k ≡ false
other_group file name f n k named other =
    let parts = both (bytes_eq k.file file) (bytes_eq k.def.name name) named in
    let filed = (bytes_eq-Decides k.file file).0 parts.0 in
    let called = (bytes_eq-Decides k.def.name name).0 parts.1 in
    (λ j. bytes_eq (filed j) f && bytes_eq (called j) n) ∙ other

others_pass : {R : Type 0} (fits : R → List Entry → Type 0) (last : R → LastAsks) (passed : R → Passed) (remembers : Bool) → StaysPassed fits last passed
    → (w : World) (k after : KeptManager R) (kept : KeptGroup R) (old new : Series) (file name : List ℕ) (time i before now : ℕ) (r : Report) → ManagesGroupsOf fits last passed k w
    → (t : IsThere fits last passed (settings_in k) w.history file name k.groups w.groups i) → after.groups ≡ slice_set k.groups i kept → is_later t.group.last time ≡ true
    → IsEvaluated fits last passed remembers (settings_in k) t.group t.kept kept w.history time old new before now r
    → (f n : List ℕ) → (bytes_eq file f && bytes_eq name n) ≡ false → passed_by_named passed after (eval_step (settings_in k) w time file name).world.history f n ≡ passed_by_named passed k w.history f n
others_pass fits last passed remembers stays w k after kept old new file name time i before now r keeps t groups later e f n other =
    let s = settings_in k in
    let step = group_step s t.group w.history time in
    let end = history_with w.history step in
    let ends : (eval_step s w time file name).world.history ≡ end = ap (λ (x : Step). x.world.history) (step_later s w time file name t.group t.group_found later) in
    let first = other_group file name f n t.kept t.named other in
    let filed = e.file in
    let defined = e.def in
    let second : is_kept_named f n kept ≡ false = (λ j. bytes_eq (filed j) f && bytes_eq (defined j).name n) ∙ first in
    let found : kept_named f n after.groups ≡ kept_named f n k.groups = ap (kept_named f n) groups ∙ find_other (is_kept_named f n) k.groups i t.kept kept t.kept_at first second in
    (λ j. passed_by_any passed (ends j) (found j)) ∙ each_stays_passed fits last passed stays s w.history step.report.admitted f n k.groups w.groups keeps.each

pub came_passing : {R : Type 0} (fits : R → List Entry → Type 0) (last : R → LastAsks) (passed : R → Passed) (remembers : Bool) → StaysPassed fits last passed
    → (w : World) (k after : KeptManager R) (old new : Series) (file name : List ℕ) (time i before now : ℕ) (r : Report) → place_of (is_kept_named file name) k.groups ≡ Some i
    → IsKnownAt fits last passed remembers k after old new time i before now r → after.reloaded ≡ k.reloaded → settings_in after ≡ settings_in k
    → ManagesGroupsOf fits last passed k w → MayEvaluateOver old w.history time
    → EvaluationPasses remembers (settings_in k) w time file name (passed_by_named passed k w.history) (passed_by_named passed after (eval_step (settings_in k) w time file name).world.history)
came_passing {R} fits last passed remembers stays w k after old new file name time i before now r at known since settings keeps may =
    let t = is_there fits last passed (settings_in k) w.history file name k.groups w.groups i keeps.each at in
    let c = known w.history t.kept t.group t.kept_at t.keeps may in
    by c.kept c.placed t (is_later t.group.last time) refl c.comes
  where
    by : (kept : KeptGroup R) → after.groups ≡ slice_set k.groups i kept → (t : IsThere fits last passed (settings_in k) w.history file name k.groups w.groups i) → (b : Bool) → is_later t.group.last time ≡ b
        → MatchBool b (IsEvaluated fits last passed remembers (settings_in k) t.group t.kept kept w.history time old new before now r) (IsNotLater t.group.last t.kept kept old new before now r)
        → EvaluationPasses remembers (settings_in k) w time file name (passed_by_named passed k w.history) (passed_by_named passed after (eval_step (settings_in k) w time file name).world.history)
    by kept groups t true e h = record {
      own = λ g found later does. came_passed fits last passed remembers w g k after old new file name time i before now r at known keeps may found later does;
      others = others_pass fits last passed remembers stays w k after kept old new file name time i before now r keeps t groups e h;
      refused = λ x. absurd (let clash : true ≡ false = sym x ∙ ap (λ (y : Step). y.refused) (step_later (settings_in k) w time file name t.group t.group_found e) in cc);
    }
    by kept groups t false e h =
        let late = not_later_is t.group.last time e in
        let same : after.groups ≡ k.groups = groups ∙ ap (slice_set k.groups i) h.same ∙ set_same k.groups i t.kept t.kept_at in
        let still : after ≡ k = same_manager k after (record { groups_are = same; since = since; settings = settings }) in
        let is = step_not (settings_in k) w time file name t.group late.0 t.group_found late.1 e in
        let ends = ap (λ (x : Step). x.world.history) is in
        refused_passes remembers (settings_in k) w time file name (passed_by_named passed k w.history) (passed_by_named passed after (eval_step (settings_in k) w time file name).world.history)
        (ap (λ (x : Step). x.refused) is) (λ j. passed_by_named passed (still j) (ends j))

pub answered_passing : {R : Type 0} (fits : R → List Entry → Type 0) (last : R → LastAsks) (passed : R → Passed) (remembers : Bool) → StaysPassed fits last passed
    → (w : World) (k after : KeptManager R) (old new : Series) (file name : List ℕ) (time i before now : ℕ) (result : Result Report AllocError) → place_of (is_kept_named file name) k.groups ≡ Some i
    → KnownAt fits last passed remembers k after old new time i before now result → OnOk result (after.reloaded ≡ k.reloaded) → OnOk result (settings_in after ≡ settings_in k)
    → ManagesGroupsOf fits last passed k w → MayEvaluateOver old w.history time
    → OnOk result (EvaluationPasses remembers (settings_in k) w time file name (passed_by_named passed k w.history) (passed_by_named passed after (eval_step (settings_in k) w time file name).world.history))
answered_passing fits last passed remembers stays w k after old new file name time i before now (Err e) at known since settings keeps may = tt
answered_passing fits last passed remembers stays w k after old new file name time i before now (Ok r) at known since settings keeps may =
    came_passing fits last passed remembers stays w k after old new file name time i before now r at known since settings keeps may
