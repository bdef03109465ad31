use Rattle.std.proofs.Common.{filter, take}
use Rattle.pr_match.specs.pr_labels.Order.{labels_cmp}
use Rattle.spec_vectors.specs.Histogram.{histogram_labels, is_bucket}
use Rattle.pr_fn.specs.private.Buckets.{buckets_of}
use Rattle.pr_fn.specs.private.Gathered.{AreGathered}
use Rattle.pr_fn.proofs.histograms.gather.Given as goal

-- the buckets so far are gathered
abbrev pub invariant-loop-item : goal.invariant-loop-item
invariant-loop-item l = AreGathered labels_cmp histogram_labels buckets_of (filter is_bucket (take l.item-index l.vector)) l.parts
