use Rattle.std.proofs.Common.{List, map}
use Rattle.pr_group.specs.spec_rules.Groups.{Group}
use Rattle.pr_group.specs.spec_rules.Settings.{Settings}
use Rattle.spec_tests.specs.pr_testfile.Checks.{plain_check}
use Rattle.spec_tests.specs.pr_testfile.Tests.{PlainTest}
use Rattle.spec_tests.specs.Events.{world_at}
use Rattle.spec_tests.specs.Verdict.{expr_check}
use Rattle.pr_unit.specs.private.Kept.{StandsForWorld}
use Rattle.pr_unit.specs.private.Slots.{AreFilled, AreFilling}
use Rattle.pr_unit.proofs.checks.fill_exprs.Given as goal

-- the slots of the first ones are filled
abbrev pub invariant-checks : goal.invariant-checks
invariant-checks g l = (gs : List Group) (t : PlainTest) (s : Settings) → StandsForWorld g.R.Ranges.fits g.R.Ranges.last g.R.Ranges.passed l.run.head l.run.groups.items s (world_at l.every gs t l.time)
    → AreFilled (expr_check l.every gs l.test t) (λ c. c.time) (map plain_check l.checks) l.time l.initial.slots.items
    → AreFilling (expr_check l.every gs l.test t) (λ c. c.time) (map plain_check l.checks) l.time l.index l.slots.items
