-- How far the run of a test has come.
use Rattle.std.specs.Prelude.{◌≡◌, ℕ, ◌+◌, ◌-◌, ◌*◌, ◌/◌, ◌<◌, ◌≤◌, ◌⊎◌, List, Option, Some, None}
use Rattle.std.specs.List.{AllByRecursion}
use Rattle.pr_slide.specs.spec_history.declared.entry.Entry.{Entry}
use Rattle.spec_tests.specs.pr_testfile.declared.inputs.input.Input.{Input}
use Rattle.pr_slide.specs.pr_range.private.Asks.{LastAsks, Passed}
use Rattle.pr_group.specs.spec_rules.Groups.{Group}
use Rattle.pr_group.specs.spec_rules.Settings.{Settings}
use Rattle.spec_tests.specs.spec_world.World.{World}
use Rattle.spec_tests.specs.pr_testfile.Series.{places}
use Rattle.spec_tests.specs.pr_testfile.declared.tests.Test.{Test}
use Rattle.spec_tests.specs.pr_testfile.Tests.{PlainTest, plain_test}
use Rattle.spec_tests.specs.Events.{last_check, settings_of}
use Rattle.spec_tests.specs.private.Rounds.{HasCome}
use Rattle.pr_unit.specs.private.Feeding.{HasFed}
use Rattle.pr_unit.specs.declared.run.Run.{Run}
use Rattle.pr_unit.specs.private.Kept.{StandsForWorld}

-- a time is not from one until another
abbrev pub IsOutside : ℕ → ℕ → ℕ → Type 0
IsOutside from until time = (time < from) ⊎ (until ≤ time)

-- how many rounds there are up to the last check
abbrev pub rounds_until : ℕ → Option ℕ → ℕ
rounds_until every None = 0
rounds_until every (Some last) = last / every + 1

-- The run has come to a world up to a time: so many places and rounds lie behind, and the head, the
-- groups and what is fed stand for that.
pub record HasRun {R : Type 0} (fits : R → List Entry → Type 0) (last : R → LastAsks) (passed : R → Passed) (input : Input) (every : ℕ) (groups : List Group) (s : Settings) (rounds now : ℕ) (r : Run R) : Type 0 where
  pub world : World
  pub places_behind : ℕ
  pub rounds_behind : ℕ
  pub come : HasCome input every groups s rounds places_behind r.left rounds_behind now world
  pub stands : StandsForWorld fits last passed r.head r.groups.items s world
  pub fed : HasFed input.series places_behind r.feed
  pub place : r.place ≡ places_behind * input.interval
  pub round : r.round ≡ rounds_behind * every
  pub left : r.left ≡ places input.series - places_behind

-- the run of a test, over the groups that it begins with
abbrev pub HasRunTest : {R : Type 0} → (R → List Entry → Type 0) → (R → LastAsks) → (R → Passed) → Test → ℕ → List Group → ℕ → Run R → Type 0
HasRunTest fits last passed test every groups now r =
    HasRun fits last passed test.input every groups (settings_of every (plain_test test)) (rounds_until every (last_check (plain_test test))) now r

-- No check stands between two times, and some check stands at the second one, if not before the
-- first.
pub record IsNextCheck (t : PlainTest) (from time : ℕ) : Type 0 where
  pub later : from ≤ time
  pub latest : ℕ
  pub last : last_check t ≡ Some latest
  pub until : time ≤ latest
  pub alerts : AllByRecursion (λ c. IsOutside from time c.time) t.alerts
  pub exprs : AllByRecursion (λ c. IsOutside from time c.time) t.exprs
