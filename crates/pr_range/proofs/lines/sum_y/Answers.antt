use Rattle.std.proofs.Common.{◌≡◌, ◌+◌, ◌*◌, ◌^◌, ◌<◌, ◌≤◌, ◌+ℤ◌, length, take, get_or, ap, subst, sym, ◌∙◌, arith, to_z, of_z, unsigned_abs}
use Rattle.std.specs.Int.{w128}
use Rattle.std.proofs.lemmas.Int.{to_z-of_z}
use Rattle.spec_vectors.specs.Regression.{sum_abs_y, sum_y, units_from}
use Rattle.pr_range.specs.private.Parted.{IsParted}
use Rattle.pr_range.proofs.Sums.{sum_abs_y_more, sum_y_more}
use Rattle.pr_range.proofs.lines.sum_y.Goals as goal

pub loop-spot-preserved : goal.loop-spot-preserved
loop-spot-preserved c =
    let first = c.args.first.now in
    let rest = c.args.rest.now in
    let at = c.loop-spot.spot-index in
    let inside : at < length rest = omega arith in
    let units = c.units_from-units.result in
    let wrapped : to_z w128 (of_z w128 units) ≡ units = grind (arith, to_z-of_z) in
    let is : units ≡ units_from first (get_or rest at c.spot-item.result) = c.units_from-units.ensures.value ∙ ap (units_from first) c.spot-item.is in
    let magnitude : c.unsigned_abs.result ≡ unsigned_abs (units_from first (get_or rest at c.spot-item.result)) = c.unsigned_abs.ensures.value ∙ ap unsigned_abs (wrapped ∙ is) in
    let least = c.units_from-units.ensures.small in
    let bound : c.unsigned_abs.result ≤ 2 * 10 ^ 29 = subst (λ n. n ≤ 2 * 10 ^ 29) (sym (c.unsigned_abs.ensures.value ∙ ap unsigned_abs wrapped)) least in
    let size = c.with_part-sum.ensures.size in
    let so_far = c.loop-spot.invariant.size in
    let small = c.loop-spot.invariant.small in
    record {
      value = subst (λ z. IsParted z c.with_part-sum.result) (ap (λ z. sum_y first (take at rest) +ℤ z) (wrapped ∙ is) ∙ sum_y_more first rest at c.spot-item.result inside)
          (c.with_part-sum.ensures.value (sum_y first (take at rest)) c.loop-spot.invariant.value);
      size = size ∙ ap (λ n. n + c.unsigned_abs.result) so_far ∙ ap (λ n. sum_abs_y first (take at rest) + n) magnitude ∙ sum_abs_y_more first rest at c.spot-item.result inside;
      small = omega arith;
    }
