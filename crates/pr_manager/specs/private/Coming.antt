-- What an evaluation of a group at a place comes to. Private contracts cite this: a reader can pass
-- it over.
use Rattle.std.specs.Prelude.{◌≡◌, ℕ, ◌+◌, ◌≤◌, Bool, true, MatchBool, cond, nat_lt, List, ◌++◌, slice_set, Option, Some, None}
use Rattle.spec_world.specs.spec_history.declared.entry.Entry.{Entry}
use Rattle.pr_group.specs.pr_head.private.Intake.{Series}
use Rattle.pr_group.specs.pr_range.private.Asks.{LastAsks, Passed}
use Rattle.spec_world.specs.spec_rules.private.Costs.{group_cost}
use Rattle.spec_world.specs.spec_rules.Evaluations.{GroupStep, group_step}
use Rattle.spec_world.specs.spec_rules.Groups.{Group}
use Rattle.spec_world.specs.spec_rules.private.Passed.{IsPassedAfter}
use Rattle.spec_world.specs.spec_rules.Settings.{Settings}
use Rattle.pr_group.specs.private.Keeping.{KeptGroup, passed_by}
use Rattle.spec_world.specs.declared.report.Report.{Report}
use Rattle.spec_world.specs.declared.report.Report.TheVariants as report
use Rattle.pr_manager.specs.private.Keeping.{HasGoneOn, KeepsUnder}

-- the history after a step
abbrev pub history_with : List Entry → GroupStep → List Entry
history_with history step = history ++ step.report.admitted

-- it was evaluated
pub record IsEvaluated {R : Type 0} (fits : R → List Entry → Type 0) (last : R → LastAsks) (passed : R → Passed) (remembers : Bool) (s : Settings) (g : Group) (k kept : KeptGroup R) (history : List Entry) (time : ℕ) (old new : Series) (before now : ℕ) (r : Report) : Type 0 where
  pub told : r ≡ report.Evaluated (group_step s g history time).report
  pub head : HasGoneOn old new history (history_with history (group_step s g history time))
  pub def : kept.def ≡ k.def
  pub file : kept.file ≡ k.file
  pub keeps : KeepsUnder fits last passed s (history_with history (group_step s g history time)) kept (group_step s g history time).group
  pub few : now ≤ before + group_cost s g history time (passed_by passed k history)
  pub passing : remembers ≡ true → IsPassedAfter s g history time (passed_by passed k history) (passed_by passed kept (history_with history (group_step s g history time)))

-- it was refused, since it was evaluated so late, and nothing has changed
pub record IsNotLater {R : Type 0} (since : Option ℕ) (k kept : KeptGroup R) (old new : Series) (before now : ℕ) (r : Report) : Type 0 where
  pub told : (at : ℕ) → since ≡ Some at → r ≡ report.NotLater at
  pub head : new ≡ old
  pub same : kept ≡ k
  pub few : now ≡ before

-- whether a time is after the last evaluation, if there was one; and the last evaluation, where a
-- time is not after it
abbrev pub is_later : Option ℕ → ℕ → Bool
is_later None time = true
is_later (Some at) time = nat_lt at time

abbrev pub too_late : Option ℕ → ℕ → Option ℕ
too_late None time = None
too_late (Some at) time = cond (nat_lt at time) None (Some at)

abbrev pub GroupComes : {R : Type 0} → (R → List Entry → Type 0) → (R → LastAsks) → (R → Passed) → Bool → Settings → Group → KeptGroup R → KeptGroup R → List Entry → ℕ → Series → Series → ℕ → ℕ → Report → Type 0
GroupComes fits last passed remembers s g k kept history time old new before now r =
    MatchBool (is_later g.last time) (IsEvaluated fits last passed remembers s g k kept history time old new before now r) (IsNotLater g.last k kept old new before now r)

-- so of the group at a place
pub record ComesAt {R : Type 0} (fits : R → List Entry → Type 0) (last : R → LastAsks) (passed : R → Passed) (remembers : Bool) (s : Settings) (g : Group) (k : KeptGroup R) (history : List Entry) (time : ℕ) (old new : Series) (ks more : List (KeptGroup R)) (place before now : ℕ) (r : Report) : Type 0 where
  pub kept : KeptGroup R
  pub placed : more ≡ slice_set ks place kept
  pub comes : GroupComes fits last passed remembers s g k kept history time old new before now r
