use Rattle.std.proofs.Common.{◌≡◌, ◌+◌, ◌*◌, ◌^◌, ◌≤◌, take}
use Rattle.spec_vectors.specs.Regression.{sum_abs_y, sum_y}
use Rattle.pr_range.specs.private.Parted.{IsParted}
use Rattle.pr_range.proofs.lines.sum_y.Given as goal

-- the sum so far
abbrev pub invariant-loop-spot : goal.invariant-loop-spot
invariant-loop-spot l = record {
  value : IsParted (sum_y l.first (take l.spot-index l.rest)) l.sum;
  size : l.sum.up + l.sum.down ≡ sum_abs_y l.first (take l.spot-index l.rest);
  small : l.sum.up + l.sum.down ≤ l.spot-index * (2 * 10 ^ 29);
}
