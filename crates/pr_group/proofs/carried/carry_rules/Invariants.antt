use Rattle.std.proofs.Common.{◌≡◌, List, length, map, Some}
use Rattle.pr_rule.specs.declared.remembered.Remembered.{Remembered}
use Rattle.pr_group.specs.private.Carrying.{GoneSoFar}
use Rattle.pr_group.proofs.carried.carry_rules.Given as goal

-- those so far have gone on
abbrev pub invariant-loop-index : goal.invariant-loop-index
invariant-loop-index g l = record {
  size : length l.own.items ≡ length l.fn.own.items;
  sizes : length l.olds.items ≡ length l.fn.olds.items;
  gone : (befores : List (Remembered g.row.R.Denot)) → l.fn.olds.items ≡ map Some befores → GoneSoFar g.R.Ranges.fits g.R.Ranges.last g.R.Ranges.passed l.rules l.older l.fn.own.items befores l.from l.index l.own.items l.olds.items;
}
