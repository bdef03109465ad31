-- Which series have a label, in label order.
use Rattle.std.specs.Prelude.{◌≡◌, ℕ, Bool, true, List, [], slice_get, Some, unwrap_or}
use Rattle.std.specs.List.{AllByRecursion, list_any}
use Rattle.std.specs.Map.{keys_of, lookup}
use Rattle.pr_labels.specs.declared.pair.Pair.{Pair}
use Rattle.pr_labels.specs.LabelSet.{IsLabelSet}
use Rattle.pr_labels.specs.Order.{pair_eq}
use Rattle.pr_labels.specs.Rising.{IsRising, is_among}
use Rattle.spec_history.specs.private.Laws.{has_values}
use Rattle.pr_head.specs.private.Holds.{chosen_of}

-- series with their numbers
abbrev pub Numbered : Type 0
Numbered = List (List Pair × ℕ)

-- whether a label set has a label
abbrev pub has_label : Pair → List Pair → Bool
has_label label labels = list_any (pair_eq label) labels

-- at each number stands the series that it is said to be
abbrev pub AreNumbered : List (List Pair) → Numbered → Type 0
AreNumbered sets listing = AllByRecursion (λ e. slice_get sets e.1 ≡ Some e.0) listing

-- Those of the series that pass a test, in label order, each with its number.
pub record IsListing (test : List Pair → Bool) (sets : List (List Pair)) (listing : Numbered) : Type 0 where
  pub in_order : keys_of listing ≡ chosen_of test sets
  pub numbers : AreNumbered sets listing

-- what stands under a label
abbrev pub listing_of : List (Pair × Numbered) → Pair → Numbered
listing_of listings label = unwrap_or (lookup (pair_eq label) listings) []

-- All series are listed, and under each label those that have it. Each has a label set, in which no
-- name stands twice.
pub record IsIndexed (all : Numbered) (by_label : List (Pair × Numbered)) (sets : List (List Pair)) : Type 0 where
  pub fit : AllByRecursion IsLabelSet sets
  pub every : IsListing (λ labels. true) sets all
  pub each : (label : Pair) → IsListing (has_label label) sets (listing_of by_label label)

-- It is enough to ask these for the series that have some values: they are in label order, and none
-- that has the values is missing.
pub record IsEnough (equal : List Pair) (sets : List (List Pair)) (listing : Numbered) : Type 0 where
  pub rising : IsRising (keys_of listing)
  pub numbers : AreNumbered sets listing
  pub wanted : (labels : List Pair) → has_values equal labels ≡ true → is_among labels (keys_of listing) ≡ is_among labels sets
