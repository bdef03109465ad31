use Rattle.std.proofs.Common.{◌+ℤ◌, rules, FitsSigned}
use Rattle.std.specs.Int.{w128}
use Rattle.std.proofs.lemmas.Int.{to_z-of_z}
use Rattle.pr_num.proofs.ranks.between.Goals as goal

pub returns : goal.returns
returns c =
    let low : FitsSigned w128 c.args.low = c.ranges.low in
    let high : FitsSigned w128 c.args.high = c.ranges.high in
    let from_low : FitsSigned w128 c.times.result = search rules in
    let from_high : FitsSigned w128 c.times-2.result = search rules in
    let sum : FitsSigned w128 (c.times.result +ℤ c.times-2.result) = search rules in
    let rounded = simp to_z-of_z at c.over_billion.ensures in
    let left = simp to_z-of_z at c.times.ensures.value in
    let right = simp to_z-of_z at c.times-2.ensures.value in
    rw (← left, ← right) rounded
