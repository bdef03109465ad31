-- What each command promises, by what the four objects mean before and after it.
use Rattle.std.specs.Prelude.{◌≡◌, ◌≢◌, ℕ, List, take, Option, Some, None, Result, Ok, Err, OnOk}
use Rattle.std.specs.Io.KnownBytes.{Appends}
use Rattle.pr_outside.specs.Meant.{Store}
use Rattle.pr_outside.specs.Ends.{Ends, no_row, stop_status}
use Rattle.pr_outside.specs.Outside.{Outside, AreCalm}
use Rattle.pr_outside.specs.declared.status.status.Status.{Status}
use Rattle.pr_outside.specs.declared.status.status.Status.TheVariants as status
use Rattle.pr_outside.specs.declared.status.status.Stop.{Stop}
use Rattle.pr_outside.specs.FileChecks.{MeansFileCheck}
use Rattle.pr_outside.specs.InputChecks.{MeansInputCheck}
use Rattle.pr_backfill.specs.pr_checks.Metrics.{metrics_told}
use Rattle.pr_backfill.specs.pr_checks.RuleFiles.{rules_told}
use Rattle.pr_test.specs.TestsTold.{tests_told}
use Rattle.pr_outside.specs.Stores.{IsBadIn}
use Rattle.pr_run.specs.Runs.{MeansRun}
use Rattle.pr_exercise.specs.Means.{MeansExercise}
use Rattle.pr_backfill.specs.Means.{MeansBackfill}
use Rattle.pr_top.specs.Command.{Command, runs, tests_rules, checks_rules, checks_metrics, exercises, backfills}
use Rattle.pr_top.specs.Usage.{usage_text}

-- how the program ends where the words are none of the forms, by how the writing of the text ended
abbrev pub usage_status : Result Unit Stop → Status
usage_status (Ok done) = status.Usage
usage_status (Err stop) = stop_status stop

-- What is promised there.
pub record MeansUsage (text : List ℕ) (before now : Outside) (result : Status) : Type 0 where
  pub ending : Result Unit Stop
  pub answer : result ≡ usage_status ending
  pub ends : Ends no_row ⊥ before now ending
  pub whole : OnOk ending (Appends before.out.taken now.out.taken text)
  pub front : (n : ℕ) × Appends before.out.taken now.out.taken (take n text)
  -- no call was refused, and memory sufficed
  pub exactly : AreCalm before now → result ≢ status.Memory → (result ≡ status.Usage) × Appends before.out.taken now.out.taken text

-- What a command promises.
abbrev pub MeansCommand : Option Command → Outside → Outside → Status → Type 0
MeansCommand None before now result = MeansUsage usage_text before now result
MeansCommand (Some (runs path)) before now result = MeansRun path before now result
MeansCommand (Some (tests_rules names)) before now result = MeansFileCheck tests_told names before now result
MeansCommand (Some (checks_rules names)) before now result = MeansFileCheck rules_told names before now result
MeansCommand (Some checks_metrics) before now result = MeansInputCheck metrics_told before now result
MeansCommand (Some (exercises rounds)) before now result = MeansExercise rounds before now result
MeansCommand (Some (backfills path times names)) before now result = MeansBackfill path times names before now result

-- what shows that a row is a bad one: a run, an exercise and a backfill look at rows
abbrev pub HasBadRow : Option Command → Store → Type 0
HasBadRow None store = ⊥
HasBadRow (Some (runs path)) store = (index : ℕ) × IsBadIn store index
HasBadRow (Some (tests_rules names)) store = ⊥
HasBadRow (Some (checks_rules names)) store = ⊥
HasBadRow (Some checks_metrics) store = ⊥
HasBadRow (Some (exercises rounds)) store = (index : ℕ) × IsBadIn store index
HasBadRow (Some (backfills path times names)) store = (index : ℕ) × IsBadIn store index
