use Rattle.std.proofs.Common.{◌≡◌, ◌++◌, drop, vec_len}
use Rattle.spec_vectors.specs.Histogram.{raised, raised_from}
use Rattle.pr_fn.proofs.quantiles.raised.Given as goal

-- the buckets so far, and those to come
abbrev pub invariant-loop-bucket : goal.invariant-loop-bucket
invariant-loop-bucket l = (l.rising.items ++ raised_from l.most (drop l.bucket-index l.buckets) ≡ raised l.buckets) × (vec_len l.rising ≡ l.bucket-index)
