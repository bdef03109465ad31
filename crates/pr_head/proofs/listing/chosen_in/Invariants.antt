use Rattle.std.proofs.Common.{◌≡◌, ◌++◌, filter}
use Rattle.std.specs.Map.{values_of}
use Rattle.spec_history.specs.private.Laws.{has_values}
use Rattle.pr_head.proofs.listing.chosen_in.Given as goal

-- those so far, and those of the series that are left
abbrev pub invariant-loop-labels : goal.invariant-loop-labels
invariant-loop-labels l = l.chosen.items ++ values_of (filter (λ e. has_values l.equal e.0) l.labels-iterator) ≡ values_of (filter (λ e. has_values l.equal e.0) l.map.entries)
