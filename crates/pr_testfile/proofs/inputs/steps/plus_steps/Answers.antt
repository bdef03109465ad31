use Rattle.std.proofs.Common.{◌≡◌, ◌∙◌, ap, sym, subst, pos, ◌+ℤ◌, ◌*ℤ◌, ℤ, to_z, FitsSigned, arith}
use Rattle.std.specs.Int.{w128}
use Rattle.std.specs.Result.{result_ok}
use Rattle.std.proofs.lemmas.Int.{to_z-of_z, to_z_pos}
use Rattle.pr_num.specs.Arithmetic.{fitted}
use Rattle.pr_testfile.proofs.inputs.steps.plus_steps.Goals as goal

pub returns-in-Some-checked_add : goal.returns-in-Some-checked_add
returns-in-Some-checked_add c =
    let steps : to_z w128 c.args.steps ≡ pos c.args.steps = to_z_pos w128 c.args.steps (omega arith) in
    let first : FitsSigned w128 c.args.first = c.ranges.first in
    let by : FitsSigned w128 c.args.by = c.ranges.by in
    let b = simp (to_z-of_z, steps) at c.in-Some.ensures in
    let change : FitsSigned w128 c.in-Some.change = subst (FitsSigned w128) (sym b.1) b.0 in
    let a = simp to_z-of_z at c.in-Some-checked_add.ensures in
    let units : FitsSigned w128 c.in-Some-checked_add.units = subst (FitsSigned w128) (sym a.1) a.0 in
    let d = simp to_z-of_z at c.fitted.ensures in
    let sum : c.in-Some-checked_add.units ≡ c.args.first +ℤ (c.args.by *ℤ pos c.args.steps) = cc (a.1, b.1) in
    d ∙ ap (λ (z : ℤ). result_ok (fitted z)) sum
