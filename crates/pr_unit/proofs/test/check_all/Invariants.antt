use Rattle.std.proofs.Common.{◌-◌, ◌^◌, ◌≤◌, List}
use Rattle.pr_group.specs.spec_rules.Groups.{Group}
use Rattle.spec_tests.specs.pr_testfile.Tests.{plain_test}
use Rattle.spec_tests.specs.private.Rounds.{AreApart}
use Rattle.pr_unit.specs.private.Run.{HasRunTest}
use Rattle.pr_unit.specs.private.Slots.{HasFilled}
use Rattle.pr_unit.proofs.test.check_all.Given as goal

-- the checks before a time were made
abbrev pub invariant-times : goal.invariant-times
invariant-times g l = record {
  low : l.from ≤ 2 ^ 42;
  run : (gs : List Group) → AreApart gs → HasRunTest g.R.Ranges.fits g.R.Ranges.last g.R.Ranges.passed l.test l.every gs 0 l.initial.run → HasRunTest g.R.Ranges.fits g.R.Ranges.last g.R.Ranges.passed l.test l.every gs l.from l.run;
  filled : (gs : List Group) → AreApart gs → HasRunTest g.R.Ranges.fits g.R.Ranges.last g.R.Ranges.passed l.test l.every gs 0 l.initial.run
      → HasFilled l.every gs l.number (plain_test l.test) l.from l.slots.alerts.items l.slots.exprs.items;
}

abbrev pub decreases-times : goal.decreases-times
decreases-times g l = 2 ^ 42 - l.from
