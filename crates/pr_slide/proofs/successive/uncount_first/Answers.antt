use Rattle.std.proofs.Common.{ap, arith}
use Rattle.pr_range.specs.pr_window.private.Neighbours.{one_if}
use Rattle.pr_slide.proofs.Successions.{changes_first, specials_first}
use Rattle.pr_slide.proofs.successive.uncount_first.Goals as goal

pub one_less-counts-requires : goal.one_less-counts-requires
one_less-counts-requires c = omega (arith, ap one_if c.changes_at.ensures, changes_first c.args.first.now c.args.rest.now, c.requires.changes)

pub one_less-counts-requires-2 : goal.one_less-counts-requires-2
one_less-counts-requires-2 c = omega (arith, ap one_if c.is_special.ensures, specials_first c.args.first.now c.args.rest.now, c.requires.special)

pub returns-clause-changes : goal.returns-clause-changes
returns-clause-changes c = omega (arith, ap one_if c.changes_at.ensures, changes_first c.args.first.now c.args.rest.now, c.requires.changes, c.one_less-counts.ensures)

pub returns-clause-special : goal.returns-clause-special
returns-clause-special c = omega (arith, ap one_if c.is_special.ensures, specials_first c.args.first.now c.args.rest.now, c.requires.special, c.one_less-counts-2.ensures)
