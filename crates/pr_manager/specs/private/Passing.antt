-- What was passed of the groups before and after an evaluation and a reload. A group is known by its file
-- and its name.
use Rattle.std.specs.Prelude.{◌≡◌, ℕ, Bool, true, false, ◌&&◌, List, find, Option, Some, None}
use Rattle.std.specs.Str.{bytes_eq}
use Rattle.spec_world.specs.spec_meaning.private.Cost.{nothing_passed}
use Rattle.spec_world.specs.spec_rules.private.Carried.{carried_by_group}
use Rattle.spec_world.specs.spec_rules.private.Costs.{PassedByRules}
use Rattle.spec_world.specs.spec_rules.Groups.{Group, is_group_named}
use Rattle.spec_world.specs.spec_rules.private.Passed.{IsPassedAfter}
use Rattle.spec_world.specs.spec_rules.Settings.{Settings}
use Rattle.spec_world.specs.spec_rules.private.Times.{IsAfter}
use Rattle.spec_world.specs.World.{World}
use Rattle.spec_world.specs.declared.event.NamedFile.{NamedFile}
use Rattle.pr_manager.specs.private.Rounds.{eval_step, files_step}

abbrev pub PassedByNames : Type 0
PassedByNames = List ℕ → List ℕ → PassedByRules

abbrev pub none_passed : PassedByRules
none_passed i = nothing_passed

-- An evaluation passes what its group asks for, where ranges remember; of the other groups it passes
-- nothing. One that is refused passes nothing at all.
pub record EvaluationPasses (remembers : Bool) (s : Settings) (w : World) (time : ℕ) (file name : List ℕ) (before after : PassedByNames) : Type 0 where
  pub own : (g : Group) → find (is_group_named file name) w.groups ≡ Some g → IsAfter time g.last → remembers ≡ true → IsPassedAfter s g w.history time (before file name) (after file name)
  pub others : (f n : List ℕ) → (bytes_eq file f && bytes_eq name n) ≡ false → after f n ≡ before f n
  pub refused : (eval_step s w time file name).refused ≡ true → after ≡ before

-- What was passed of a group after a reload is what it takes over of the old one that it goes on from.
-- Of a group that goes on from none nothing was passed.
abbrev pub taken_over : Option Group → Group → PassedByRules → PassedByRules
taken_over None new u = none_passed
taken_over (Some old) new u = carried_by_group new old u

abbrev pub taken_over_by : Option Group → Option Group → PassedByRules → PassedByRules
taken_over_by old None u = none_passed
taken_over_by old (Some new) u = taken_over old new u

pub record ReloadPasses (w : World) (time : ℕ) (files : List NamedFile) (before after : PassedByNames) : Type 0 where
  pub accepted : (files_step w time files).refused ≡ false → (f n : List ℕ)
      → after f n ≡ taken_over_by (find (is_group_named f n) w.groups) (find (is_group_named f n) (files_step w time files).world.groups) (before f n)
  pub refused : (files_step w time files).refused ≡ true → after ≡ before
