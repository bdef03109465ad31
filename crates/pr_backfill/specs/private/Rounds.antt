-- How far the evaluations at one time have come. Private contracts cite this: a reader can pass it over.
use Rattle.std.specs.Prelude.{◌≡◌, ℕ, List, ◌++◌, fold, length, slice_set}
use Rattle.spec_rules.specs.spec_history.declared.entry.Entry.{Entry}
use Rattle.spec_rules.specs.private.Times.{IsAfterAll}
use Rattle.pr_engine.specs.pr_head.private.Intake.{Series}
use Rattle.pr_engine.specs.pr_range.private.Asks.{LastAsks, Passed}
use Rattle.spec_rules.specs.Evaluations.{group_step}
use Rattle.spec_rules.specs.Groups.{Group}
use Rattle.spec_rules.specs.Settings.{Settings}
use Rattle.pr_engine.specs.pr_group.private.Keeping.{KeptGroup}
use Rattle.pr_engine.specs.pr_manager.private.Coming.{history_with}
use Rattle.pr_engine.specs.pr_manager.private.Keeping.{HasGoneOn, KeepEach, KeepsUnder}
use Rattle.pr_backfill.specs.declared.stepped.Stepped.{Stepped}
use Rattle.pr_backfill.specs.Filled.{Round, one_group, round_at, stepped}

-- a group was evaluated: this is told of it, it is kept, and the head has gone on
pub record IsStepped {R : Type 0} (fits : R → List Entry → Type 0) (last : R → LastAsks) (passed : R → Passed) (s : Settings) (g : Group) (kept : KeptGroup R) (history : List Entry) (time : ℕ) (old new : Series) (told : Stepped) : Type 0 where
  pub tells : told ≡ stepped g (group_step s g history time).report
  pub head : HasGoneOn old new history (history_with history (group_step s g history time))
  pub keeps : KeepsUnder fits last passed s (history_with history (group_step s g history time)) kept (group_step s g history time).group

-- so of the group at a place
pub record IsSteppedAt {R : Type 0} (fits : R → List Entry → Type 0) (last : R → LastAsks) (passed : R → Passed) (s : Settings) (g : Group) (history : List Entry) (time : ℕ) (old new : Series) (ks more : List (KeptGroup R)) (place : ℕ) (told : Stepped) : Type 0 where
  pub kept : KeptGroup R
  pub placed : more ≡ slice_set ks place kept
  pub step : IsStepped fits last passed s g kept history time old new told

-- So many groups were evaluated at a time, and these are the others: what is kept stands for them all,
-- and the head for the history as it then stands.
pub record HasFilled {R : Type 0} (fits : R → List Entry → Type 0) (last : R → LastAsks) (passed : R → Passed) (s : Settings) (time : ℕ) (history : List Entry) (groups : List Group) (old new : Series) (ks : List (KeptGroup R)) (told : List Stepped) (n : ℕ) : Type 0 where
  pub round : Round
  pub rest : List Group
  pub whole : fold (one_group s time) round rest ≡ round_at s time history groups
  pub many : length round.groups ≡ n
  pub each : KeepEach fits last passed s round.history ks (round.groups ++ rest)
  pub after : IsAfterAll time rest
  pub head : HasGoneOn old new history round.history
  pub tells : told ≡ round.told
