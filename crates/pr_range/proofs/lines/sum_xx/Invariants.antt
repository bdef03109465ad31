use Rattle.std.proofs.Common.{◌≡◌, ◌*◌, ◌^◌, ◌≤◌, take}
use Rattle.spec_vectors.specs.Regression.{sum_xx}
use Rattle.pr_range.proofs.lines.sum_xx.Given as goal

-- the sum so far
abbrev pub invariant-loop-spot : goal.invariant-loop-spot
invariant-loop-spot l = record {
  value : l.sum ≡ sum_xx l.first (take l.spot-index l.rest);
  small : l.sum ≤ l.spot-index * 2 ^ 84;
}
