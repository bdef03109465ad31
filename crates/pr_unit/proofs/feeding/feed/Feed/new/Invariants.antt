use Rattle.std.proofs.Common.{◌≡◌, None}
use Rattle.std.specs.Prelude.{replicate}
use Rattle.pr_unit.proofs.feeding.feed.Feed.new.Given as goal

-- so many stand at the first place
abbrev pub invariant-loop-one : goal.invariant-loop-one
invariant-loop-one l = l.each.items ≡ replicate l._one-index (record { progress = record { stretch = 0; within = 0 }; number = None })
