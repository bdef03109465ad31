use Rattle.std.proofs.Common.{[]}
use Rattle.laws_runs.proofs.CutShort.{cut}
use Rattle.laws_runs.proofs.Premises.{backfill, exercise, files, long, metrics, refused, run, told_rows, unread, usage}
use Rattle.pr_outside.specs.FileChecks.{all_told}
use Rattle.pr_top.specs.Usage.{usage_text}
use Rattle.pr_top.specs.pr_backfill.pr_checks.Metrics.{metrics_told}
use Rattle.pr_top.specs.pr_backfill.pr_checks.RuleFiles.{rules_told}
use Rattle.pr_top.specs.pr_test.TestsTold.{tests_told}
use Rattle.laws_runs.proofs.headline.the_headline.Goals as goal

pub returns-clause-run : goal.returns-clause-run
returns-clause-run c = run

pub returns-clause-long : goal.returns-clause-long
returns-clause-long c = long

pub returns-clause-cut : goal.returns-clause-cut
returns-clause-cut c = cut

pub returns-clause-told_rows : goal.returns-clause-told_rows
returns-clause-told_rows c = told_rows

pub returns-clause-tests : goal.returns-clause-tests
returns-clause-tests c = λ names held before now result p known calm some. files (all_told tests_told held names) held before now result (p.follows [] unread held) known calm some

pub returns-clause-success : goal.returns-clause-success
returns-clause-success c = λ held name. (
  c.success_is_told_exactly_where_all_is_met.ensures.only held name,
  c.success_is_told_exactly_where_all_is_met.ensures.told held name,
  c.success_is_told_exactly_where_all_is_met.ensures.refused held name,
  c.success_is_told_exactly_where_all_is_met.ensures.taken held name,
)

pub returns-clause-rules : goal.returns-clause-rules
returns-clause-rules c = λ names held before now result p known calm some. files (all_told rules_told held names) held before now result (p.follows [] unread held) known calm some

pub returns-clause-metrics : goal.returns-clause-metrics
returns-clause-metrics c = λ bytes before now result p input calm some few. metrics (metrics_told bytes) bytes before now result (p.follows bytes (λ used. input)) calm some few

pub returns-clause-exercise : goal.returns-clause-exercise
returns-clause-exercise c = exercise

pub returns-clause-backfill : goal.returns-clause-backfill
returns-clause-backfill c = backfill

pub returns-clause-refused : goal.returns-clause-refused
returns-clause-refused c = refused

pub returns-clause-usage : goal.returns-clause-usage
returns-clause-usage c = λ before now result p calm some. usage usage_text before now result (p.follows [] unread) calm some

pub returns-clause-statuses : goal.returns-clause-statuses
returns-clause-statuses c = λ command before now result p. p.cause
