use Rattle.std.proofs.Common.{arith, ◌+◌, ◌*◌, ◌-◌, ◌^◌, ◌≤◌}
use Rattle.pr_num.specs.Half.{half_abs}
use Rattle.pr_num.proofs.Signs.{half_abs_below}
use Rattle.pr_num.proofs.wide.Wide.mean.Goals as goal

pub unreachable-requires : goal.unreachable-requires
unreachable-requires c =
    let n = c.magnitude-high.result.0 * 2 ^ 64 + c.magnitude-high.result.1 in
    let low : n ≤ (10 ^ 29 - 1) * c.args.count = omega arith in
    let below : half_abs n c.args.count ≤ 10 ^ 29 - 1 = half_abs_below n c.args.count (10 ^ 29 - 1) c.requires.some low in
    omega (arith, below, c.in-None.ensures.none)
