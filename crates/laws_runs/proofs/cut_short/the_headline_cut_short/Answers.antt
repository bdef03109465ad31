use Rattle.std.proofs.Common.{[], None, refl}
use Rattle.pr_top.specs.Usage.{usage_text}
use Rattle.pr_top.specs.pr_backfill.pr_checks.Metrics.{metrics_told}
use Rattle.pr_top.specs.pr_backfill.pr_checks.RuleFiles.{rules_told}
use Rattle.pr_top.specs.pr_test.TestsTold.{tests_told}
use Rattle.laws_runs.proofs.CutShort.{backfill, exercise, files, lone_row, refused, row}
use Rattle.laws_runs.proofs.Premises.{at, lone, nothing_held, unread}
use Rattle.laws_runs.proofs.cut_short.the_headline_cut_short.Goals as goal

pub returns-clause-exercise : goal.returns-clause-exercise
returns-clause-exercise c = exercise

pub returns-clause-tests : goal.returns-clause-tests
returns-clause-tests c = λ names held before now result p known. files tests_told names held before now result (p.follows [] unread held) known

pub returns-clause-rules : goal.returns-clause-rules
returns-clause-rules c = λ names held before now result p known. files rules_told names held before now result (p.follows [] unread held) known

pub returns-clause-metrics : goal.returns-clause-metrics
returns-clause-metrics c = λ bytes before now result p input. lone None (metrics_told bytes).text [] before now ((p.follows bytes (λ used. input) nothing_held).front tt)

pub returns-clause-silent : goal.returns-clause-silent
returns-clause-silent c = λ before now result p. p.silent refl

pub returns-clause-long : goal.returns-clause-long
returns-clause-long c = λ bytes before now result p input calm some many. (p.follows bytes (λ used. input) nothing_held).long refl many calm some

pub returns-clause-backfill : goal.returns-clause-backfill
returns-clause-backfill c = backfill

pub returns-clause-refused : goal.returns-clause-refused
returns-clause-refused c = refused

pub returns-clause-unopened : goal.returns-clause-unopened
returns-clause-unopened c = λ path times names all before now result p same end. at now.store.rows _ all end (p.unopened path times names refl same)

pub returns-clause-told_rows : goal.returns-clause-told_rows
returns-clause-told_rows c = λ path times names before now result p opened calm some sound. p.told opened calm some sound

pub returns-clause-row : goal.returns-clause-row
returns-clause-row c = row

pub returns-clause-lone_row : goal.returns-clause-lone_row
returns-clause-lone_row c = lone_row

pub returns-clause-usage : goal.returns-clause-usage
returns-clause-usage c = λ before now result p. lone None usage_text [] before now ((p.follows [] unread nothing_held).front tt)
