use Rattle.std.proofs.Common.{◌≡◌, ℕ, None, length, map, ap, ◌∙◌, arith}
use Rattle.std.specs.Prelude.{replicate}
use Rattle.pr_unit.specs.declared.feeding.feed.SeriesFeed.{SeriesFeed}
use Rattle.pr_unit.specs.declared.feeding.progress.Progress.{Progress}
use Rattle.pr_unit.proofs.FeedingFeeding.{all_at_first, mapped_all}
use Rattle.pr_unit.proofs.feeding.feed.Feed.new.Goals as goal

first : SeriesFeed
first = record { progress = record { stretch = 0; within = 0 }; number = None }

progress_of : SeriesFeed → Progress
progress_of s = s.progress

pub returns : goal.returns
unfolding first progress_of
returns c =
    let n = c.loop-one._one-index in
    let all : n ≡ length c.args.series.now = omega arith in
    all_at_first c.args.series.now (map progress_of c.loop-one.each.items)
    (ap (map progress_of) (c.loop-one.invariant ∙ ap (λ (m : ℕ). replicate m first) all) ∙ mapped_all progress_of (length c.args.series.now) first)
