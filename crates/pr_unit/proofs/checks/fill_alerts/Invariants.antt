use Rattle.std.proofs.Common.{ℕ, List}
use Rattle.pr_group.specs.spec_rules.Groups.{Group}
use Rattle.pr_group.specs.spec_rules.Settings.{Settings}
use Rattle.spec_tests.specs.pr_testfile.Tests.{PlainTest}
use Rattle.spec_tests.specs.Events.{world_at}
use Rattle.spec_tests.specs.Verdict.{alert_check}
use Rattle.pr_unit.specs.private.Kept.{StandsForWorld}
use Rattle.pr_unit.specs.private.Slots.{AreFilled, AreFilling}
use Rattle.pr_unit.proofs.checks.fill_alerts.Given as goal

-- the slots of the first ones are filled
abbrev pub invariant-checks : goal.invariant-checks
invariant-checks g l = (interval : ℕ) (gs : List Group) (t : PlainTest) (s : Settings) → StandsForWorld g.R.Ranges.fits g.R.Ranges.last g.R.Ranges.passed l.run.head l.run.groups.items s (world_at interval gs t l.time)
    → AreFilled (alert_check interval gs l.test t) (λ c. c.time) l.checks l.time l.initial.slots.items
    → AreFilling (alert_check interval gs l.test t) (λ c. c.time) l.checks l.time l.index l.slots.items
