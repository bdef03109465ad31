-- Operators between two vectors: which elements are paired, and what the pairs give.
use Rattle.std.specs.Prelude.{Bool, true, false, cond, nat_lt, not, List, [], ◌∷◌, ◌++◌, map, filter, count_by, find, Option, Some, None, Result, Ok, Err}
use Rattle.std.specs.List.{filter_map, flat_map, list_any}
use Rattle.std.specs.Option.{option_map, option_or, option_to_list}
use Rattle.pr_num.specs.declared.value.Num.{Num}
use Rattle.pr_num.specs.declared.value.TooWide.{TooWide}
use Rattle.spec_history.specs.pr_labels.declared.pair.Pair.{Pair}
use Rattle.spec_history.specs.pr_labels.declared.item.Item.{Item}
use Rattle.spec_history.specs.pr_labels.declared.matching.Card.{Card}
use Rattle.spec_history.specs.pr_labels.declared.matching.Card.TheVariants.{OneToOne, ManyToOne, OneToMany}
use Rattle.spec_history.specs.pr_labels.declared.matching.Matching.{Matching}
use Rattle.spec_history.specs.pr_labels.Edits.{key_labels, listed_labels, unlisted_labels, without_name, union_labels}
use Rattle.spec_history.specs.pr_labels.LabelSet.{metric_label}
use Rattle.spec_history.specs.pr_labels.Order.{labels_eq}
use Rattle.spec_vectors.specs.declared.match_fault.MatchFault.{MatchFault}
use Rattle.spec_vectors.specs.declared.match_fault.MatchFault.TheVariants as fault
use Rattle.spec_vectors.specs.Vectors.{element, in_label_order, in_order}

-- What an operator answers to a left and a right value: a value, or none where a filter drops the
-- pair.
abbrev pub Operator : Type 0
Operator = Num → Num → Result (Option Num) TooWide

-- An operator that is no filter keeps each pair.
abbrev pub always_kept : Result Num TooWide → Result (Option Num) TooWide
always_kept (Ok value) = Ok (Some value)
always_kept (Err e) = Err e

-- The key of an element: its labels on the names, or without the names and the metric's name.
abbrev pub key_of : Matching → Item Num → List Pair
key_of how e = key_labels how.on e.labels how.names

abbrev pub has_key : Matching → List Pair → Item Num → Bool
has_key how key e = labels_eq (key_of how e) key

-- The one side is the right one, with `group_right` the left; the many side is the other one.
abbrev pub one_side : Card → List (Item Num) → List (Item Num) → List (Item Num)
one_side OneToOne left right = right
one_side ManyToOne left right = right
one_side OneToMany left right = left

abbrev pub many_side : Card → List (Item Num) → List (Item Num) → List (Item Num)
many_side OneToOne left right = left
many_side ManyToOne left right = left
many_side OneToMany left right = right

-- The keys of a side, in label order, each once, and whether two of its elements have a key.
abbrev pub key_set : Matching → List (Item Num) → List (List Pair)
key_set how side = in_label_order (map (key_of how) side)

abbrev pub is_shared : Matching → List (Item Num) → List Pair → Bool
is_shared how side key = nat_lt 1 (count_by (has_key how key) side)

-- Where the many side is not empty, two elements of the one side with equal keys are ManyToMany
-- with the least such key.
abbrev pub least_shared : Matching → List (Item Num) → Option (List Pair)
least_shared how side = find (is_shared how side) (key_set how side)

abbrev pub side_fault : Matching → List (Item Num) → List (Item Num) → Option MatchFault
side_fault how [] ones = None
side_fault how (m ∷ manys) ones = option_map fault.ManyToMany (least_shared how ones)

-- A pair has an element of the many side and one of the one side.
pub record Paired : Type 0 where
  pub many : Item Num
  pub one : Item Num

abbrev pub paired : Item Num → Item Num → Paired
paired m o = record { many = m; one = o }

-- The pairs are all those with equal keys, in order of the many side.
abbrev pub pairs_with : Matching → List (Item Num) → Item Num → List Paired
pairs_with how ones m = map (paired m) (filter (has_key how (key_of how m)) ones)

abbrev pub pairs : Matching → List (Item Num) → List (Item Num) → List Paired
pairs how manys ones = flat_map (pairs_with how ones) manys

-- The operator takes the left value first.
abbrev pub worked : Card → Operator → Paired → Result (Option Num) TooWide
worked OneToOne op p = op p.many.value p.one.value
worked ManyToOne op p = op p.many.value p.one.value
worked OneToMany op p = op p.one.value p.many.value

-- The labels of what a pair gives are the many side's, without the metric's name unless it is kept.
-- In one-to-one matching they are then kept to the `on` names, or are without the `ignoring` names.
-- In grouped matching each included label is set from the one side, or removed where that has it
-- not.
abbrev pub name_kept : Bool → List Pair → List Pair
name_kept true labels = labels
name_kept false labels = without_name labels metric_label

abbrev pub narrowed : Matching → List Pair → List Pair
narrowed how labels = cond how.on (listed_labels labels how.names) (unlisted_labels labels how.names)

abbrev pub with_included : Matching → List Pair → List Pair → List Pair
with_included how one labels = union_labels (unlisted_labels labels how.include) (listed_labels one how.include)

abbrev pub labels_by : Card → Matching → List Pair → List Pair → List Pair
labels_by OneToOne how one labels = narrowed how labels
labels_by ManyToOne how one labels = with_included how one labels
labels_by OneToMany how one labels = with_included how one labels

abbrev pub result_labels : Matching → Bool → Paired → List Pair
result_labels how keep_name p = labels_by how.card how p.one.labels (name_kept keep_name p.many.labels)

-- What a kept pair gives: its key, and an element of the result.
pub record KeptPair : Type 0 where
  pub key : List Pair
  pub item : Item Num

abbrev pub kept_as : Matching → Bool → Paired → Num → KeptPair
kept_as how keep_name p value = record { key = key_of how p.many; item = element (result_labels how keep_name p) value }

-- What becomes of a pair: it is too wide, or kept, or not.
abbrev pub kept_if : Matching → Bool → Paired → Result (Option Num) TooWide → Result (Option KeptPair) TooWide
kept_if how keep_name p (Err e) = Err e
kept_if how keep_name p (Ok value) = Ok (option_map (kept_as how keep_name p) value)

abbrev pub pair_outcome : Matching → Bool → Operator → Paired → Result (Option KeptPair) TooWide
pair_outcome how keep_name op p = kept_if how keep_name p (worked how.card op p)

abbrev pub kept_of : Result (Option KeptPair) TooWide → Option KeptPair
kept_of (Err e) = None
kept_of (Ok k) = k

abbrev pub kept_pairs : List (Result (Option KeptPair) TooWide) → List KeptPair
kept_pairs outcomes = filter_map kept_of outcomes

-- Three tests of a pair after those kept before it. First, the operator is too wide. Second, in
-- one-to-one matching, the pair is kept and its key is that of an earlier one. Third, the pair is
-- kept and its labels are those of an earlier one.
abbrev pub key_fault : Card → List KeptPair → KeptPair → Option MatchFault
key_fault OneToOne before k = cond (list_any (λ b. labels_eq b.key k.key) before) (Some (fault.ManyToMany k.key)) None
key_fault ManyToOne before k = None
key_fault OneToMany before k = None

abbrev pub labels_fault : List KeptPair → KeptPair → Option MatchFault
labels_fault before k = cond (list_any (λ b. labels_eq b.item.labels k.item.labels) before) (Some (fault.NotUnique k.item.labels)) None

abbrev pub outcome_fault : Card → List KeptPair → Result (Option KeptPair) TooWide → Option MatchFault
outcome_fault card before (Err e) = Some fault.TooWide
outcome_fault card before (Ok None) = None
outcome_fault card before (Ok (Some k)) = option_or (key_fault card before k) (labels_fault before k)

-- the first fault of pairs that come after those kept before
abbrev pub fault_of_outcomes : Card → List KeptPair → List (Result (Option KeptPair) TooWide) → Option MatchFault
fault_of_outcomes card before [] = None
fault_of_outcomes card before (o ∷ outcomes) = option_or (outcome_fault card before o) (fault_of_outcomes card (before ++ option_to_list (kept_of o)) outcomes)

-- The result is what the kept pairs give, unless there is a fault.
abbrev pub unless_fault : Option MatchFault → List (Item Num) → Result (List (Item Num)) MatchFault
unless_fault None items = Ok items
unless_fault (Some f) items = Err f

abbrev pub items_kept : List KeptPair → List (Item Num)
items_kept ks = map (λ k. k.item) ks

abbrev pub joined_result : Card → List (Result (Option KeptPair) TooWide) → Option MatchFault → Result (List (Item Num)) MatchFault
joined_result card outcomes first = unless_fault (option_or first (fault_of_outcomes card [] outcomes)) (in_order (items_kept (kept_pairs outcomes)))

abbrev pub outcomes_of : Matching → Bool → Operator → List (Item Num) → List (Item Num) → List (Result (Option KeptPair) TooWide)
outcomes_of how keep_name op manys ones = map (pair_outcome how keep_name op) (pairs how manys ones)

abbrev pub joined_sides : Matching → Bool → Operator → List (Item Num) → List (Item Num) → Result (List (Item Num)) MatchFault
joined_sides how keep_name op manys ones = joined_result how.card (outcomes_of how keep_name op manys ones) (side_fault how manys ones)

abbrev pub joined : Matching → Bool → Operator → List (Item Num) → List (Item Num) → Result (List (Item Num)) MatchFault
joined how keep_name op left right = joined_sides how keep_name op (many_side how.card left right) (one_side how.card left right)

-- Whether a side has an element with the key of this one.
abbrev pub is_matched : Matching → List (Item Num) → Item Num → Bool
is_matched how side e = list_any (has_key how (key_of how e)) side

-- The left elements whose key the right side has; those whose key it has not; and all left ones
-- with the right ones whose key the left side has not.
abbrev pub both_sides : Matching → List (Item Num) → List (Item Num) → List (Item Num)
both_sides how left right = filter (is_matched how right) left

abbrev pub left_alone : Matching → List (Item Num) → List (Item Num) → List (Item Num)
left_alone how left right = filter (λ e. not (is_matched how right e)) left

abbrev pub either_side : Matching → List (Item Num) → List (Item Num) → List (Item Num)
either_side how left right = in_order (left ++ left_alone how right left)
