-- The series that a selector chooses, said of the head alone.
use Rattle.std.specs.Prelude.{ℕ, Bool, List}
use Rattle.pr_labels.specs.declared.pair.Pair.{Pair}
use Rattle.pr_fn.specs.pr_match.Matcher.{LabelTest, meets_all}
use Rattle.pr_range.specs.pr_head.private.Stored.{Stored}
use Rattle.pr_range.specs.pr_head.private.Holds.{labels_at, sets_of}

-- the labels of a series
abbrev pub labels_of_series : List (List Pair × Stored) → ℕ → List Pair
labels_of_series head series = labels_at (sets_of head) series

-- whether the labels of a series meet all matchers
abbrev pub is_met_by : List LabelTest → List (List Pair × Stored) → ℕ → Bool
is_met_by tests head series = meets_all tests (labels_of_series head series)
