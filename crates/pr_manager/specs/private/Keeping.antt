-- How what is kept of all groups stands for them.
use Rattle.std.specs.Prelude.{◌≡◌, ℕ, ℤ, Bool, List}
use Rattle.std.specs.List.{AllZip}
use Rattle.spec_world.specs.pr_tmpl.declared.template.External.{External}
use Rattle.spec_world.specs.spec_history.private.Laws.{IsLawful}
use Rattle.spec_world.specs.spec_history.declared.entry.Entry.{Entry}
use Rattle.pr_group.specs.pr_head.private.Holds.{Holds, IsWhole}
use Rattle.pr_group.specs.pr_head.private.Intake.{Series}
use Rattle.pr_group.specs.pr_range.private.Asks.{LastAsks, Passed}
use Rattle.spec_world.specs.spec_rules.Groups.{Group}
use Rattle.spec_world.specs.spec_rules.Settings.{Settings}
use Rattle.pr_group.specs.private.Keeping.{KeepsGroup, KeptGroup, settings_of}
use Rattle.spec_world.specs.World.{World}

-- What is kept: the groups in order, whether a reload was accepted since the start, the step of
-- subqueries that name none, and what templates see as external.
pub record KeptManager (R : Type 0) : Type 0 where
  pub groups : List (KeptGroup R)
  pub reloaded : Bool
  pub step : ℕ
  pub external : External

abbrev pub settings_with : ℕ → External → Settings
settings_with step external = record { subquery_step = step; external = external }

abbrev pub settings_in : {R : Type 0} → KeptManager R → Settings
settings_in k = settings_with k.step k.external

-- a group is kept, under these settings
pub record KeepsUnder {R : Type 0} (fits : R → List Entry → Type 0) (last : R → LastAsks) (passed : R → Passed) (s : Settings) (history : List Entry) (k : KeptGroup R) (g : Group) : Type 0 where
  pub keeps : KeepsGroup fits last passed k history g
  pub told : settings_of k ≡ s

-- so of each, in order
abbrev pub KeepEach : {R : Type 0} → (R → List Entry → Type 0) → (R → LastAsks) → (R → Passed) → Settings → List Entry → List (KeptGroup R) → List Group → Type 0
KeepEach fits last passed s history ks groups = AllZip (KeepsUnder fits last passed s history) ks groups

pub record ManagesGroups {R : Type 0} (fits : R → List Entry → Type 0) (last : R → LastAsks) (passed : R → Passed) (k : KeptManager R) (history : List Entry) (groups : List Group) (reloaded : Bool) : Type 0 where
  pub each : KeepEach fits last passed (settings_in k) history k.groups groups
  pub since : k.reloaded ≡ reloaded

-- those of a world
abbrev pub ManagesGroupsOf : {R : Type 0} → (R → List Entry → Type 0) → (R → LastAsks) → (R → Passed) → KeptManager R → World → Type 0
ManagesGroupsOf fits last passed k w = ManagesGroups fits last passed k w.history w.groups w.reloaded

-- A head that stood for a history stands for a later one, and nothing more is forgotten.
pub record HasGoneOn (old new : Series) (history later : List Entry) : Type 0 where
  pub holds : Holds new later
  pub whole : (x : ℤ) → IsWhole old history x → IsWhole new later x
  pub lawful : IsLawful later
