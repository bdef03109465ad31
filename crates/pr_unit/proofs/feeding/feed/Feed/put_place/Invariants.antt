use Rattle.std.proofs.Common.{◌≡◌, ℕ, ◌*◌, List, take}
use Rattle.std.specs.List.{filter_map}
use Rattle.pr_slide.specs.spec_history.declared.entry.Entry.{Entry}
use Rattle.pr_slide.specs.pr_head.private.Holds.{Holds}
use Rattle.pr_slide.specs.pr_head.private.Intake.{HasTaken}
use Rattle.spec_tests.specs.pr_testfile.Series.{entry_at}
use Rattle.pr_unit.specs.private.Feeding.{HasFed, IsFeeding}
use Rattle.pr_unit.proofs.feeding.feed.Feed.put_place.Given as goal

-- what the first ones have at the place was put
abbrev pub invariant-series : goal.invariant-series
invariant-series l = record {
  taken : (interval place : ℕ) (history : List Entry) → HasFed l.series place l.fn.self → l.time ≡ place * interval → Holds l.initial.head history
      → HasTaken l.initial.head l.head history (filter_map (entry_at interval place) (take l.number l.series));
  fed : (place : ℕ) → HasFed l.series place l.fn.self → IsFeeding l.series place l.number l.self;
}
