use Rattle.std.proofs.Common.{◌≡◌, ℕ, ◌<◌, List, Some, slice_get}
use Rattle.pr_labels.specs.declared.pair.Pair.{Pair}
use Rattle.pr_head.specs.private.Stored.{Stored}
use Rattle.pr_head.specs.private.Oldest.{IsSince}
use Rattle.pr_head.proofs.head.oldest_of.Given as goal

-- no held sample of the series so far is older
abbrev pub invariant-loop-number : goal.invariant-loop-number
invariant-loop-number l = (i : ℕ) (e : List Pair × Stored) → i < l.number → slice_get l.series.entries i ≡ Some e → IsSince l.oldest e.1
