-- What the operations of label sets give: filters of the list of pairs.
use Rattle.std.specs.Prelude.{ℕ, Bool, true, false, not, cond, List, [], ◌∷◌, ◌++◌, filter, fold, length, Option, Some, None, is_some}
use Rattle.std.specs.List.{list_any}
use Rattle.std.specs.Option.{option_or}
use Rattle.std.specs.Cmp.Lexicographic.{slice_cmp}
use Rattle.std.specs.Ordering.{nat_cmp, is_lt}
use Rattle.std.specs.Str.{bytes_eq}
use Rattle.pr_labels.specs.declared.fault.LabelFault.{LabelFault}
use Rattle.pr_labels.specs.declared.fault.LabelFault.TheVariants.{BadName, Twice}
use Rattle.pr_labels.specs.declared.pair.Pair.{Pair}
use Rattle.pr_labels.specs.LabelSet.{has_name, metric_label, pair_of}
use Rattle.pr_labels.specs.Names.{is_label_name}

-- the pair's name is below the name, by bytes
abbrev pub is_below : List ℕ → Pair → Bool
is_below name p = is_lt (slice_cmp nat_cmp p.name name)

-- the pair's name is above the name
abbrev pub is_above : List ℕ → Pair → Bool
is_above name p = is_lt (slice_cmp nat_cmp name p.name)

-- the pair of a name and a value, where the value is not empty
abbrev pub label_of : List ℕ → List ℕ → List Pair
label_of name [] = []
label_of name (b ∷ bs) = pair_of name (b ∷ bs) ∷ []

-- the value, where it is not empty
abbrev pub value_if_any : List ℕ → Option (List ℕ)
value_if_any [] = None
value_if_any (b ∷ bs) = Some (b ∷ bs)

abbrev pub has_value : Pair → Bool
has_value p = is_some (value_if_any p.value)

-- the pairs with names below, then the new pair where its value is not empty, then those with names
-- above
abbrev pub set_label : List Pair → List ℕ → List ℕ → List Pair
set_label labels name value = filter (is_below name) labels ++ (label_of name value ++ filter (is_above name) labels)

abbrev pub set_pair : List Pair → Pair → List Pair
set_pair labels p = set_label labels p.name p.value

-- the pairs with other names
abbrev pub without_name : List Pair → List ℕ → List Pair
without_name labels name = filter (λ p. not (has_name name p)) labels

-- the pair's name is one of the names
abbrev pub is_listed : List (List ℕ) → Pair → Bool
is_listed names p = list_any (λ name. bytes_eq p.name name) names

-- the pairs whose names are listed, and those whose names are not
abbrev pub listed_labels : List Pair → List (List ℕ) → List Pair
listed_labels labels names = filter (is_listed names) labels

abbrev pub unlisted_labels : List Pair → List (List ℕ) → List Pair
unlisted_labels labels names = filter (λ p. not (is_listed names p)) labels

-- the key by which series are matched or grouped: on the names, or without them and the metric's
-- name
abbrev pub key_labels : Bool → List Pair → List (List ℕ) → List Pair
key_labels true labels names = listed_labels labels names
key_labels false labels names = without_name (unlisted_labels labels names) metric_label

-- each pair of the second set is set in the first, so that the second wins
abbrev pub union_labels : List Pair → List Pair → List Pair
union_labels labels over = fold set_pair labels over

-- the label set of pairs with distinct names: each is set in turn, so that one with an empty value
-- is no label
abbrev pub labels_of : List Pair → List Pair
labels_of pairs = fold set_pair [] pairs

-- what is wrong with a pair that stands after the pairs before it
abbrev pub pair_fault : List Pair → Pair → Option LabelFault
pair_fault before p = cond (is_label_name p.name) (cond (list_any (has_name p.name) before) (Some (Twice (length before))) None) (Some (BadName (length before)))

-- the first fault among pairs that stand after the pairs before them
abbrev pub fault_after : List Pair → List Pair → Option LabelFault
fault_after before [] = None
fault_after before (p ∷ ps) = option_or (pair_fault before p) (fault_after (before ++ p ∷ []) ps)

-- the first fault of pairs that are to be a label set
abbrev pub first_fault : List Pair → Option LabelFault
first_fault pairs = fault_after [] pairs
