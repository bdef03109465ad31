use Rattle.std.proofs.Common.{Option, ap}
use Rattle.pr_top.specs.Command.{Command, uses}
use Rattle.laws_runs.proofs.unused.what_is_not_used_stays.Goals as goal

pub returns-clause-tests : goal.returns-clause-tests
returns-clause-tests g c = λ names is. (
  c.promtool.ensures.input (ap (λ (x : Option Command). (uses x).input) is),
  c.promtool.ensures.keeper (ap (λ (x : Option Command). (uses x).store) is),
)

pub returns-clause-rules : goal.returns-clause-rules
returns-clause-rules g c = λ names is. (
  c.promtool.ensures.input (ap (λ (x : Option Command). (uses x).input) is),
  c.promtool.ensures.keeper (ap (λ (x : Option Command). (uses x).store) is),
)

pub returns-clause-metrics : goal.returns-clause-metrics
returns-clause-metrics g c = λ is. (
  c.promtool.ensures.files (ap (λ (x : Option Command). (uses x).files) is),
  c.promtool.ensures.keeper (ap (λ (x : Option Command). (uses x).store) is),
)

pub returns-clause-exercise : goal.returns-clause-exercise
returns-clause-exercise g c = λ rounds is. (
  c.promtool.ensures.input (ap (λ (x : Option Command). (uses x).input) is),
  c.promtool.ensures.files (ap (λ (x : Option Command). (uses x).files) is),
)

pub returns-clause-backfill : goal.returns-clause-backfill
returns-clause-backfill g c = λ path times names is. c.promtool.ensures.input (ap (λ (x : Option Command). (uses x).input) is)

pub returns-clause-usage : goal.returns-clause-usage
returns-clause-usage g c = λ is. (
  c.promtool.ensures.input (ap (λ (x : Option Command). (uses x).input) is),
  c.promtool.ensures.files (ap (λ (x : Option Command). (uses x).files) is),
  c.promtool.ensures.keeper (ap (λ (x : Option Command). (uses x).store) is),
)
