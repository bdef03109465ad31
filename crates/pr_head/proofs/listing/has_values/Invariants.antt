use Rattle.std.proofs.Common.{◌≡◌, drop}
use Rattle.spec_history.specs.private.Laws.{has_values}
use Rattle.pr_head.proofs.listing.has_values.Given as goal

-- the pairs so far are met
abbrev pub invariant-loop-pair : goal.invariant-loop-pair
invariant-loop-pair l = has_values (drop l.pair-index l.equal) l.labels ≡ has_values l.equal l.labels
