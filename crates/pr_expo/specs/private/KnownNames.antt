-- The names of a list's labels, in an order.
use Rattle.std.specs.Prelude.{◌≡◌, ℕ, Bool, List}
use Rattle.std.specs.BTreeSet.{BTreeSet, contains_by}
use Rattle.std.specs.Cmp.Lexicographic.{slice_cmp}
use Rattle.std.specs.Ordering.{nat_cmp}
use Rattle.pr_labels.specs.declared.pair.Pair.{Pair}
use Rattle.std.specs.List.{list_any}
use Rattle.pr_labels.specs.LabelSet.{has_name}

-- whether a set of names has a name
abbrev pub knows_name : BTreeSet (List ℕ) → List ℕ → Bool
knows_name names name = contains_by (λ n. slice_cmp nat_cmp name n) names

-- a set of names has those of the labels, and no others
abbrev pub KnowsNames : BTreeSet (List ℕ) → List Pair → Type 0
KnowsNames names labels = (name : List ℕ) → knows_name names name ≡ list_any (has_name name) labels
