use Rattle.std.proofs.Common.{◌≡◌, ◌-◌, ◌++◌, ap, ◌∙◌, arith, take, drop}
use Rattle.pr_range.specs.private.Spots.{spots_of}
use Rattle.pr_range.proofs.Between.{place_more}
use Rattle.pr_range.proofs.read.push_between.Goals as goal

pub loop-place-preserved : goal.loop-place-preserved
loop-place-preserved g c =
    let low = c.loop-place.invariant.low in
    let place = c.loop-place.place in
    let before = c.loop-place-test.true in
    record {
      spots = λ e at front back. place_more e.1 c.args.from place c.args.to c.args.spots.now.items c.loop-place.spots.items c.push_at.new.spots.items front low
          (c.loop-place.invariant.spots e at front back) (c.in_ok-push_at.ensures.spots e at (omega arith) (omega arith));
      low = omega arith;
      high = omega arith;
      reads = omega arith;
    }

pub returns-clause-spots : goal.returns-clause-spots
returns-clause-spots g c = λ e at front back.
    let size : c.loop-place.place - c.args.from ≡ c.args.to - c.args.from = omega (arith, c.loop-place.invariant.low, c.loop-place.invariant.high) in
    c.loop-place.invariant.spots e at front back ∙ ap (λ n. c.args.spots.now.items ++ spots_of (take n (drop (c.args.from - e.1.first) e.1.held))) size

pub returns-clause-reads : goal.returns-clause-reads
returns-clause-reads g c = omega (arith, c.loop-place.invariant.low, c.loop-place.invariant.high, c.loop-place.invariant.reads)
