-- Where a name stands among the pairs of a label set, or would stand.
use Rattle.std.specs.Prelude.{◌≡◌, ℕ, ◌<◌, ◌≤◌, true, List, length, filter, take, drop}
use Rattle.std.specs.List.{HoldsAt}
use Rattle.pr_labels.specs.declared.pair.Pair.{Pair}
use Rattle.pr_labels.specs.Edits.{is_above, is_below}
use Rattle.pr_labels.specs.LabelSet.{has_name}

-- the pair at the place has the name
pub record IsPlaceOf (labels : List Pair) (name : List ℕ) (place : ℕ) : Type 0 where
  pub within : place < length labels
  pub named : HoldsAt (λ p. has_name name p ≡ true) labels place

-- the pairs before the gap are those with names below, and those behind it the ones with names above
pub record IsGapFor (labels : List Pair) (name : List ℕ) (gap : ℕ) : Type 0 where
  pub within : gap ≤ length labels
  pub below : filter (is_below name) labels ≡ take gap labels
  pub above : filter (is_above name) labels ≡ drop gap labels
