use Rattle.std.proofs.Common.{rules, FitsSigned, ◌∙◌, ap, ℤ, ◌+◌, ◌%◌, ◌^◌, ◌+ℤ◌}
use Rattle.std.specs.Int.{w128}
use Rattle.std.proofs.lemmas.Int.{to_z-of_z}
use Rattle.pr_num.specs.private.Parts.{number_of_parts}
use Rattle.pr_num.proofs.Parts.{parts_added}
use Rattle.pr_num.proofs.wide.Wide.add.Goals as goal

pub returns : goal.returns
returns c =
    let left : FitsSigned w128 c.self.inside.high = search rules in
    let right : FitsSigned w128 c.b.inside.high = search rules in
    let sum : FitsSigned w128 c.sum_with_carry.result = search rules in
    let high = simp to_z-of_z at c.sum_with_carry.ensures in
    simp to_z-of_z
    (ap (λ (h : ℤ). number_of_parts h ((c.self.inside.low + c.b.inside.low) % 2 ^ 64)) high
    ∙ parts_added c.self.inside.high c.b.inside.high c.self.inside.low c.b.inside.low
    ∙ ap (λ (z : ℤ). z +ℤ number_of_parts c.b.inside.high c.b.inside.low) c.self.view_is
    ∙ ap (λ (z : ℤ). c.args.self +ℤ z) c.b.view_is)
