use Rattle.std.proofs.Common.{◌≡◌, ◌+◌, ◌*◌, ◌<◌, pos, ◌+ℤ◌, ◌*ℤ◌, length, take, get_or, ap, subst, ◌∙◌, arith, to_z, of_z, unsigned_abs}
use Rattle.std.specs.Int.{w128}
use Rattle.std.proofs.lemmas.Int.{to_z-of_z}
use Rattle.spec_vectors.specs.Regression.{sum_abs_xy, sum_xy, time_from, units_from}
use Rattle.pr_range.specs.private.Parted.{IsParted}
use Rattle.pr_range.proofs.Sums.{sum_abs_xy_more, sum_xy_more}
use Rattle.pr_range.proofs.lines.sum_xy.Goals as goal

pub loop-spot-preserved : goal.loop-spot-preserved
loop-spot-preserved c =
    let first = c.args.first.now in
    let rest = c.args.rest.now in
    let at = c.loop-spot.spot-index in
    let inside : at < length rest = omega arith in
    let units = c.units_from.result in
    let wrapped : to_z w128 (of_z w128 units) ≡ units = grind (arith, to_z-of_z) in
    let time : c.time_from.result ≡ time_from first (get_or rest at c.spot-item.result) = c.time_from.ensures.value ∙ ap (time_from first) c.spot-item.is in
    let is : to_z w128 (of_z w128 units) ≡ units_from first (get_or rest at c.spot-item.result) = wrapped ∙ c.units_from.ensures.value ∙ ap (units_from first) c.spot-item.is in
    record {
      value = subst (λ z. IsParted z c.in_ok-sum.sum) ((λ i. sum_xy first (take at rest) +ℤ pos (time i) *ℤ is i) ∙ sum_xy_more first rest at c.spot-item.result inside)
          (c.in_ok-sum.ensures.value (sum_xy first (take at rest)) c.loop-spot.invariant.value);
      size = c.in_ok-sum.ensures.size ∙ ap (λ n. n + c.time_from.result * unsigned_abs (to_z w128 (of_z w128 units))) c.loop-spot.invariant.size
          ∙ (λ i. sum_abs_xy first (take at rest) + time i * unsigned_abs (is i)) ∙ sum_abs_xy_more first rest at c.spot-item.result inside;
      small = c.in_ok-sum.ensures.small;
    }
