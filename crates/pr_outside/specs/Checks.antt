-- What is told of an input or a file that is checked, and how the program ends after it.
use Rattle.std.specs.Prelude.{ℕ, List, Result, Ok, Err}
use Rattle.pr_outside.specs.Ends.{stop_status}
use Rattle.pr_outside.specs.declared.status.status.Status.{Status}
use Rattle.pr_outside.specs.declared.status.status.Status.TheVariants.{Done, Problem, Lint}
use Rattle.pr_outside.specs.declared.status.status.Stop.{Stop}
use Rattle.pr_outside.specs.declared.check_loops.verdict.Verdict.{Verdict}
use Rattle.pr_outside.specs.declared.check_loops.verdict.Verdict.TheVariants.{Good, Complaints, Refused}

-- what is told: its text, and how it comes out
pub record Checked : Type 0 where
  pub text : List ℕ
  pub verdict : Verdict

abbrev pub ends : Verdict → Status
ends Good = Done
ends Complaints = Lint
ends Refused = Problem

abbrev pub ends_by : Result Verdict Stop → Status
ends_by (Ok verdict) = ends verdict
ends_by (Err stop) = stop_status stop
