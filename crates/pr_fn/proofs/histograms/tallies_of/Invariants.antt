use Rattle.std.proofs.Common.{take}
use Rattle.pr_num.specs.Order.{order_of}
use Rattle.pr_fn.specs.private.Buckets.{bound_in, tally_of}
use Rattle.pr_fn.specs.private.Gathered.{AreGathered}
use Rattle.pr_fn.proofs.histograms.tallies_of.Given as goal

-- the counts so far are added up
abbrev pub invariant-loop-bucket : goal.invariant-loop-bucket
invariant-loop-bucket l = AreGathered order_of bound_in tally_of (take l.bucket-index l.buckets) l.tallies
