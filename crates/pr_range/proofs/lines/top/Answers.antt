use Rattle.std.proofs.Common.{◌≡◌, ◌+◌, ◌*◌, ◌^◌, ◌≤◌, pos, ◌*ℤ◌, ap, subst, ◌∙◌, arith, to_z, of_z}
use Rattle.std.specs.Int.{w128}
use Rattle.std.proofs.lemmas.Int.{to_z-of_z}
use Rattle.spec_vectors.specs.Regression.{count, slope_top, sum_x, sum_xy, sum_y}
use Rattle.pr_range.proofs.Slopes.{parts_are, slope_narrow, slope_wide}
use Rattle.pr_range.proofs.lines.top.Goals as goal

pub returns-in-Some-clause-narrow : goal.returns-in-Some-clause-narrow
returns-in-Some-clause-narrow c =
    let first = c.args.first.now in
    let rest = c.args.rest.now in
    let xy = c.in_ok-xy.xy in
    let y = c.sum_y-y.result in
    slope_narrow first rest xy y c.in-Some.parts c.in_ok-xy.ensures.size c.sum_y-y.ensures.size
    (c.in-Some.ensures.up ∙ (λ i. c.count.ensures.value i * xy.up + c.sum_x.ensures.value i * y.down))
    (c.in-Some.ensures.down ∙ (λ i. c.count.ensures.value i * xy.down + c.sum_x.ensures.value i * y.up)) c.in-Some.ensures.small

pub returns-in-Some-clause-value : goal.returns-in-Some-clause-value
returns-in-Some-clause-value c =
    let first = c.args.first.now in
    let rest = c.args.rest.now in
    let xy = c.in_ok-xy.xy in
    let y = c.sum_y-y.result in
    let is : c.difference_of.result ≡ slope_top first rest =
    c.difference_of.ensures.value (slope_top first rest)
    (parts_are (sum_xy first rest) (sum_y first rest) xy y c.in-Some.parts (count rest) (sum_x first rest) c.in_ok-xy.ensures.value c.sum_y-y.ensures.value
    (c.in-Some.ensures.up ∙ (λ i. c.count.ensures.value i * xy.up + c.sum_x.ensures.value i * y.down))
    (c.in-Some.ensures.down ∙ (λ i. c.count.ensures.value i * xy.down + c.sum_x.ensures.value i * y.up))) in
    let small = c.in-Some.ensures.small in
    let least = c.difference_of.ensures.small in
    let units : to_z w128 (of_z w128 (pos 1000 *ℤ to_z w128 (of_z w128 c.difference_of.result))) ≡ pos 1000 *ℤ c.difference_of.result = grind (arith, to_z-of_z) in
    units ∙ ap (λ z. pos 1000 *ℤ z) is

pub returns-in-None-clause-none : goal.returns-in-None-clause-none
returns-in-None-clause-none c =
    let first = c.args.first.now in
    let rest = c.args.rest.now in
    let xy = c.in_ok-xy.xy in
    let y = c.sum_y-y.result in
    slope_wide first rest xy y c.in_ok-xy.ensures.size c.sum_y-y.ensures.size
    (subst (λ n. 10 ^ 35 ≤ n * xy.up + sum_x first rest * y.down + (n * xy.down + sum_x first rest * y.up)) c.count.ensures.value
    (subst (λ n. 10 ^ 35 ≤ c.count.result * xy.up + n * y.down + (c.count.result * xy.down + n * y.up)) c.sum_x.ensures.value c.in-None.ensures.none))
