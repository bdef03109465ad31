use Rattle.std.proofs.Common.{◌≡◌}
use Rattle.pr_fn.specs.private.Buckets.{before_elements, valued_entries}
use Rattle.pr_fn.proofs.histograms.quantiles.Given as goal

-- the elements so far, and those to come
abbrev pub invariant-loop-labels : goal.invariant-loop-labels
invariant-loop-labels l = before_elements l.items.items (valued_entries l.phi l.labels-iterator) ≡ valued_entries l.phi l.fn.parts.entries
