use Rattle.std.proofs.Common.{arith, rules, ◌≡◌, FitsSigned, ℕ, ℤ, ◌*ℤ◌, ◌+ℤ◌, pos, ◌≤◌, ◌*◌, ◌+◌, unsigned_abs, ap, ◌∙◌}
use Rattle.std.specs.Int.{w128}
use Rattle.std.proofs.lemmas.Int.{to_z-of_z, ints}
use Rattle.pr_num.specs.Arithmetic.{fitted}
use Rattle.pr_num.proofs.multiples.nearest_multiple.Goals as goal

-- twice a step is twice as long
product_of_double : (n : ℕ) (s : ℤ) → n * unsigned_abs (pos 2 *ℤ s) ≡ 2 * (n * unsigned_abs s)
product_of_double n s = let e : unsigned_abs (pos 2 *ℤ s) ≡ 2 * unsigned_abs s = omega (arith, ints) in ap (λ x. n * x) e ∙ omega arith

pub multiple-requires : goal.multiple-requires
multiple-requires c =
    let step : FitsSigned w128 c.args.step = c.ranges.step in
    let value : FitsSigned w128 c.args.units = c.ranges.units in
    let twice_units : FitsSigned w128 (pos 2 *ℤ c.args.units) = search rules in
    let twice_step : FitsSigned w128 (pos 2 *ℤ c.args.step) = search rules in
    let sum : FitsSigned w128 (pos 2 *ℤ c.args.units +ℤ c.args.step) = search rules in
    let steps : FitsSigned w128 c.floor_quotient.result = search rules in
    let small = simp to_z-of_z at c.floor_quotient.ensures.small in
    let units : unsigned_abs (pos 2 *ℤ c.args.units +ℤ c.args.step) ≤ 2 * unsigned_abs c.args.units + unsigned_abs c.args.step = omega (arith, ints) in
    let over : unsigned_abs (pos 2 *ℤ c.args.step) ≡ 2 * unsigned_abs c.args.step = omega (arith, ints) in
    simp to_z-of_z (omega (arith, small, units, over, product_of_double (unsigned_abs c.floor_quotient.result) c.args.step))

pub returns : goal.returns
returns c =
    let step : FitsSigned w128 c.args.step = c.ranges.step in
    let value : FitsSigned w128 c.args.units = c.ranges.units in
    let twice_units : FitsSigned w128 (pos 2 *ℤ c.args.units) = search rules in
    let twice_step : FitsSigned w128 (pos 2 *ℤ c.args.step) = search rules in
    let sum : FitsSigned w128 (pos 2 *ℤ c.args.units +ℤ c.args.step) = search rules in
    let steps : FitsSigned w128 c.floor_quotient.result = search rules in
    let floor = simp to_z-of_z at c.floor_quotient.ensures.value in
    let given = simp to_z-of_z at c.multiple.ensures in
    given ∙ ap (λ (n : ℤ). fitted (n *ℤ c.args.step)) floor
