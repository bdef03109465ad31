use Rattle.std.proofs.Common.{◌≡◌, ◌-◌, ◌^◌, arith, pos, ◌*ℤ◌, FitsSigned, to_z, lit<}
use Rattle.std.specs.Int.{w128}
use Rattle.std.proofs.lemmas.Int.{to_z-of_z, to_z_pos, fits_signed_mul}
use Rattle.pr_num.proofs.Signs.{abs_product}
use Rattle.pr_num.proofs.ranks.times.Goals as goal

pub returns-clause-small : goal.returns-clause-small
returns-clause-small c =
    let units : FitsSigned w128 c.args.units = c.ranges.units in
    let way : to_z w128 c.args.way ≡ pos c.args.way = to_z_pos w128 c.args.way (omega arith) in
    let product : FitsSigned w128 (c.args.units *ℤ pos c.args.way) = fits_signed_mul w128 c.args.units (pos c.args.way) (10 ^ 29) (10 ^ 9) (omega arith) c.requires.way (lit< tt) in
    simp (to_z-of_z, way) (abs_product c.args.units c.args.way (10 ^ 29 - 1) (omega arith))
