-- How what is kept of groups stands for the groups of a world, and a head for its history.
use Rattle.std.specs.Prelude.{◌≡◌, ℕ, ℤ, List, length, slice_get, Some}
use Rattle.pr_slide.specs.spec_history.declared.entry.Entry.{Entry}
use Rattle.pr_slide.specs.spec_history.private.Laws.{IsLawful}
use Rattle.pr_slide.specs.pr_head.private.Holds.{Holds, IsWhole}
use Rattle.pr_slide.specs.pr_range.private.Asks.{LastAsks, Passed}
use Rattle.pr_slide.specs.pr_head.private.Intake.{Series}
use Rattle.pr_group.specs.spec_rules.Groups.{Group}
use Rattle.pr_group.specs.spec_rules.Settings.{Settings}
use Rattle.spec_tests.specs.spec_world.World.{World}
use Rattle.pr_group.specs.private.Keeping.{KeepsGroup, KeptGroup, settings_of}

-- Each stands for the group in its place, and was told the same.
pub record KeepsGroups {R : Type 0} (fits : R → List Entry → Type 0) (last : R → LastAsks) (passed : R → Passed) (kept : List (KeptGroup R)) (history : List Entry) (s : Settings) (groups : List Group) : Type 0 where
  pub many : length kept ≡ length groups
  pub each : (i : ℕ) (k : KeptGroup R) (g : Group) → slice_get kept i ≡ Some k → slice_get groups i ≡ Some g → KeepsGroup fits last passed k history g
  pub told : (i : ℕ) (k : KeptGroup R) → slice_get kept i ≡ Some k → settings_of k ≡ s

-- The head holds the history of the world, of which nothing is forgotten, and what is kept stands
-- for its groups.
pub record StandsForWorld {R : Type 0} (fits : R → List Entry → Type 0) (last : R → LastAsks) (passed : R → Passed) (head : Series) (kept : List (KeptGroup R)) (s : Settings) (w : World) : Type 0 where
  pub lawful : IsLawful w.history
  pub holds : Holds head w.history
  pub whole : (x : ℤ) → IsWhole head w.history x
  pub groups : KeepsGroups fits last passed kept w.history s w.groups

-- the name of a group that is kept
abbrev pub name_of : {R : Type 0} → KeptGroup R → List ℕ
name_of k = k.def.name
