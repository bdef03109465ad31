use Rattle.std.proofs.Common.{◌≡◌, ◌*◌, ℕ, pos, ap, subst, arith}
use Rattle.spec_vectors.specs.Extrapolation.{ms_between, reach}
use Rattle.pr_window.specs.private.Gains.{covered_between}
use Rattle.pr_window.specs.private.Stretches.{IsPartOf}
use Rattle.pr_window.proofs.Stretching.{parts_some, parts_small, reach_small}
use Rattle.pr_window.proofs.folds.gains.stretch_of.Goals as goal

pub returns : goal.returns
returns c =
    let first = c.args.first.now in
    let last = c.args.last.now in
    let steps = c.args.steps in
    let size = c.covered-covered.result in
    let few = c.requires.few in
    let small = c.covered-covered.ensures.small in
    let before = c.reach.ensures.small in
    let after = c.reach-2.ensures.small in
    let is : size ≡ covered_between first last = c.covered-covered.ensures.value in
    let from : c.ms_before.result ≡ ms_between c.args.ask.now.from (pos first.time) = c.ms_before.ensures.value in
    let to : c.ms_after.result ≡ ms_between (pos last.time) c.args.ask.now.to = c.ms_after.ensures.value in
    record {
      size = ap (λ (n : ℕ). n * (2 * steps)) is;
      before = subst (λ n. IsPartOf (2 * steps) (reach n (covered_between first last) steps) c.reach.result) from
          (subst (λ n. IsPartOf (2 * steps) (reach c.ms_before.result n steps) c.reach.result) is c.reach.ensures.part);
      after = subst (λ n. IsPartOf (2 * steps) (reach n (covered_between first last) steps) c.reach-2.result) to
          (subst (λ n. IsPartOf (2 * steps) (reach c.ms_after.result n steps) c.reach-2.result) is c.reach-2.ensures.part);
      some = parts_some size steps c.covered-covered.ensures.some c.requires.some;
      small = parts_small size steps small few;
      before_small = (omega arith, reach_small size steps c.reach.result c.requires.some before);
      after_small = (omega arith, reach_small size steps c.reach-2.result c.requires.some after);
    }
