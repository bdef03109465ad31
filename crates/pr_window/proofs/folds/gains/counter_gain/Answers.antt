use Rattle.std.proofs.Common.{◌≡◌, ◌+◌, not, ◌&&◌, pos, ◌+ℤ◌, ◌*ℤ◌, ap, sym, ◌∙◌, arith, to_z, of_z}
use Rattle.std.specs.Prelude.{int_lt}
use Rattle.std.specs.Int.{w128}
use Rattle.std.proofs.lemmas.Int.{to_z-of_z}
use Rattle.pr_num.specs.Half.{half}
use Rattle.spec_vectors.specs.Extrapolation.{begins_at_zero}
use Rattle.spec_vectors.specs.Spots.{units_in}
use Rattle.pr_window.specs.private.Gains.{covered_between, reach_before_first}
use Rattle.pr_window.proofs.Stretched.{Stands, begins_same, counter_above_zero, counter_at_zero}
use Rattle.pr_window.proofs.folds.gains.counter_gain.Goals as goal

pub returns-then-begins_at_zero-clause-value : goal.returns-then-begins_at_zero-clause-value
returns-then-begins_at_zero-clause-value c =
    let first = c.args.first.now in
    let last = c.args.last.now in
    let steps = c.args.steps in
    let g = c.args.gain in
    let gain : to_z w128 (of_z w128 g) ≡ g = grind (arith, to_z-of_z) in
    let s = c.stretch_of-stretch.result in
    let stands : Stands first last steps = record { some = c.requires.some; rising = c.requires.rising } in
    let value : to_z w128 (of_z w128 c.units_of-value.result) ≡ c.units_of-value.result = grind (arith, to_z-of_z) in
    let units : to_z w128 (of_z w128 (to_z w128 (of_z w128 c.extended.result) +ℤ to_z w128 (of_z w128 c.units_of-value.result))) ≡ c.extended.result +ℤ c.units_of-value.result = grind (arith, to_z-of_z) in
    let test : c.begins_at_zero.result ≡ begins_at_zero g (units_in first.value) (covered_between first last) (reach_before_first c.args.ask.now.from first last steps) =
    c.begins_at_zero.ensures
    ∙ (λ i. int_lt (pos 0) (gain i) && not (int_lt ((value ∙ c.units_of-value.ensures.value) i) (pos 0)) && int_lt ((value ∙ c.units_of-value.ensures.value) i *ℤ pos s.covered) (gain i *ℤ pos s.before))
    ∙ begins_same g c.args.ask.now.from c.args.ask.now.to first last steps s c.stretch_of-stretch.ensures stands in
    units ∙ ap (λ z. z +ℤ c.units_of-value.result) (c.extended.ensures.value ∙ ap (λ z. half (z *ℤ pos (s.covered + s.after)) (pos s.covered)) gain)
    ∙ ap (λ z. half (g *ℤ pos (s.covered + s.after)) (pos s.covered) +ℤ z) c.units_of-value.ensures.value
    ∙ counter_at_zero g c.args.ask.now.from c.args.ask.now.to first last steps s c.stretch_of-stretch.ensures stands (sym test ∙ c.if-begins_at_zero.true)

pub returns-else-begins_at_zero-clause-value : goal.returns-else-begins_at_zero-clause-value
returns-else-begins_at_zero-clause-value c =
    let first = c.args.first.now in
    let last = c.args.last.now in
    let steps = c.args.steps in
    let g = c.args.gain in
    let gain : to_z w128 (of_z w128 g) ≡ g = grind (arith, to_z-of_z) in
    let s = c.stretch_of-stretch.result in
    let stands : Stands first last steps = record { some = c.requires.some; rising = c.requires.rising } in
    let value : to_z w128 (of_z w128 c.units_of-value.result) ≡ c.units_of-value.result = grind (arith, to_z-of_z) in
    let units : to_z w128 (of_z w128 c.extended-else-begins_at_zero.result) ≡ c.extended-else-begins_at_zero.result = grind (arith, to_z-of_z) in
    let test : c.begins_at_zero.result ≡ begins_at_zero g (units_in first.value) (covered_between first last) (reach_before_first c.args.ask.now.from first last steps) =
    c.begins_at_zero.ensures
    ∙ (λ i. int_lt (pos 0) (gain i) && not (int_lt ((value ∙ c.units_of-value.ensures.value) i) (pos 0)) && int_lt ((value ∙ c.units_of-value.ensures.value) i *ℤ pos s.covered) (gain i *ℤ pos s.before))
    ∙ begins_same g c.args.ask.now.from c.args.ask.now.to first last steps s c.stretch_of-stretch.ensures stands in
    units ∙ c.extended-else-begins_at_zero.ensures.value ∙ ap (λ z. half (z *ℤ pos (s.covered + (s.before + s.after))) (pos s.covered)) gain
    ∙ counter_above_zero g c.args.ask.now.from c.args.ask.now.to first last steps s c.stretch_of-stretch.ensures stands (sym test ∙ c.if-begins_at_zero.false)
