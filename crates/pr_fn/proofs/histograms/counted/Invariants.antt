use Rattle.std.proofs.Common.{◌≡◌}
use Rattle.pr_fn.specs.private.Buckets.{before_buckets, counted_entries}
use Rattle.pr_fn.proofs.histograms.counted.Given as goal

-- the buckets so far, and those to come
abbrev pub invariant-loop-bound : goal.invariant-loop-bound
invariant-loop-bound l = before_buckets l.buckets.items (counted_entries l.bound-iterator) ≡ counted_entries l.fn.tallies.entries
