use Rattle.std.proofs.Common.{◌+◌, ◌-◌, ◌*◌, ◌<◌, ◌≤◌, ℕ, List}
use Rattle.pr_group.specs.spec_rules.Groups.{Group}
use Rattle.pr_group.specs.spec_rules.Settings.{Settings}
use Rattle.spec_tests.specs.private.Rounds.{AreApart}
use Rattle.pr_unit.specs.private.Run.{HasRun}
use Rattle.pr_unit.proofs.run.Run.advance.Given as goal

-- it has come further
abbrev pub invariant-events : goal.invariant-events
invariant-events g l = (gs : List Group) (s : Settings) (rounds now : ℕ) → AreApart gs → now ≤ l.until → l.until < rounds * l.every
    → HasRun g.R.Ranges.fits g.R.Ranges.last g.R.Ranges.passed l.input l.every gs s rounds now l.fn.self
    → HasRun g.R.Ranges.fits g.R.Ranges.last g.R.Ranges.passed l.input l.every gs s rounds l.until l.self

abbrev pub decreases-events : goal.decreases-events
decreases-events g l = l.self.left + (l.until + 1 - l.self.round)
