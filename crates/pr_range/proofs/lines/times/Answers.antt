use Rattle.std.proofs.Common.{◌≡◌, ◌*◌, ◌^◌, ◌≤◌, pos, ◌*ℤ◌, sym, subst, arith, to_z, of_z, unsigned_abs}
use Rattle.std.specs.Int.{w128}
use Rattle.std.proofs.lemmas.Grind.{common_steps}
use Rattle.std.proofs.lemmas.Int.{to_z-of_z}
use Rattle.spec_vectors.proofs.NumSigns.{abs_product}
use Rattle.pr_range.proofs.lines.times.Goals as goal

pub returns-clause-small : goal.returns-clause-small
returns-clause-small c =
    let is : to_z w128 (of_z w128 (to_z w128 (of_z w128 c.args.ms) *ℤ to_z w128 c.args.count)) ≡ c.args.ms *ℤ pos c.args.count = grind (arith, common_steps, to_z-of_z) in
    subst (λ z. unsigned_abs z ≤ 2 ^ 65 * c.args.count) (sym is) (abs_product c.args.ms c.args.count (2 ^ 65) c.requires.ms)
