use Rattle.std.proofs.Common.{take}
use Rattle.std.specs.List.{filter_map}
use Rattle.pr_slide.specs.spec_history.Admission.{put_all}
use Rattle.spec_tests.specs.pr_testfile.Series.{entry_at}
use Rattle.pr_unit.proofs.FeedingFeeding.{all_fed, taken_all, taken_next, there_within}
use Rattle.pr_unit.proofs.feeding.feed.Feed.put_place.Goals as goal

pub series-preserved : goal.series-preserved
series-preserved c = record {
  taken = λ interval place history h at holds.
      let series = c.args.series.now in
      let k = c.series.number in
      let f = entry_at interval place in
      let next = there_within series k c.series-test.true in
      let before = c.series.invariant.taken interval place history h at holds in
      taken_next c.args.head.now c.series.head c.put_one.new.head history f series k next.element next.there before
      (c.in_ok-put_one.ensures.taken interval place (put_all history (filter_map f (take k series))) next.element (c.series.invariant.fed place h) next.there at before.holds);
  fed = λ place h. c.in_ok-put_one.ensures.fed place (c.series.invariant.fed place h);
}

pub returns-clause-taken : goal.returns-clause-taken
returns-clause-taken c = λ interval place history h at holds.
    taken_all c.args.head.now c.series.head history interval place c.series.number c.args.series.now c.series-test.false (c.series.invariant.taken interval place history h at holds)

pub returns-clause-fed : goal.returns-clause-fed
returns-clause-fed c = λ place h. all_fed c.args.series.now place c.series.number c.series.self c.series-test.false (c.series.invariant.fed place h)
