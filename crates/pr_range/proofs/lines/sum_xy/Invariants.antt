use Rattle.std.proofs.Common.{◌≡◌, ◌+◌, ◌^◌, ◌<◌, take}
use Rattle.spec_vectors.specs.Regression.{sum_abs_xy, sum_xy}
use Rattle.pr_range.specs.private.Parted.{IsParted}
use Rattle.pr_range.proofs.lines.sum_xy.Given as goal

-- the sum so far
abbrev pub invariant-loop-spot : goal.invariant-loop-spot
invariant-loop-spot l = record {
  value : IsParted (sum_xy l.first (take l.spot-index l.rest)) l.sum;
  size : l.sum.up + l.sum.down ≡ sum_abs_xy l.first (take l.spot-index l.rest);
  small : l.sum.up + l.sum.down < 2 ^ 128;
}
