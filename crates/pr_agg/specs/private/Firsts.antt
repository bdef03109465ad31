-- The elements of a vector by the order of an aggregation.
use Rattle.std.specs.Prelude.{◌≡◌, ℕ, ◌+◌, ◌<◌, Bool, true, false, ◌&&◌, ◌==◌, cond, ℤ, pos, List, length, slice_get, slice_set, Some, IfSome}
use Rattle.std.specs.List.{list_any, sum_by}
use Rattle.std.specs.Option.{option_map, unwrap_or}
use Rattle.std.specs.Ordering.{then_cmp, on, nat_cmp, int_cmp}
use Rattle.std.specs.declared.cmp.Ordering.{Ordering}
use Rattle.std.specs.BTreeMap.{BTreeMap, IsOrdered, Updates, get, values}
use Rattle.pr_num.specs.declared.value.Num.{Num}
use Rattle.pr_num.specs.declared.value.Num.TheVariants.{Finite, NaN, PosInf, NegInf}
use Rattle.pr_num.specs.Arithmetic.{negated}
use Rattle.pr_window.specs.pr_labels.declared.pair.Pair.{Pair}
use Rattle.pr_window.specs.pr_labels.declared.item.Item.{Item}
use Rattle.pr_window.specs.pr_labels.declared.grouping.Grouping.{Grouping}
use Rattle.pr_window.specs.pr_labels.Order.{labels_cmp, labels_eq}
use Rattle.pr_window.specs.spec_vectors.Aggregation.{greatest_first, least_first, group_of, is_within, rank}
use Rattle.pr_agg.specs.declared.firsts.Rank.{Rank}

abbrev pub order_toward : Bool → Num → Num → Ordering
order_toward true = greatest_first
order_toward false = least_first

-- The greatest first are the least first of the negated values.
abbrev pub ranked : Bool → Num → Num
ranked true v = negated v
ranked false v = v

abbrev pub class_of : Num → ℕ
class_of NegInf = 0
class_of (Finite a) = 1
class_of PosInf = 2
class_of NaN = 3

abbrev pub units_of : Num → ℤ
units_of (Finite a) = a
units_of NegInf = pos 0
units_of PosInf = pos 0
units_of NaN = pos 0

abbrev pub rank_of : Bool → Num → ℕ → Rank
rank_of greatest v index = record { class = class_of (ranked greatest v); units = units_of (ranked greatest v); index = index }

abbrev pub rank_cmp : Rank → Rank → Ordering
rank_cmp = then_cmp (on (λ r. r.class) nat_cmp) (then_cmp (on (λ r. r.units) int_cmp) (on (λ r. r.index) nat_cmp))

-- What a place of the vector has.
abbrev pub element_value : List (Item Num) → ℕ → Num
element_value vector i = unwrap_or (option_map (λ e. e.value) (slice_get vector i)) NaN

abbrev pub rank_at : Bool → List (Item Num) → ℕ → Rank
rank_at greatest vector i = rank_of greatest (element_value vector i) i

abbrev pub weigh_at : List (Item Num) → (Item Num → ℕ) → ℕ → ℕ
weigh_at vector weight i = unwrap_or (option_map weight (slice_get vector i)) 0

-- The places of the elements seen, by their ranks.
pub record AreRanks (greatest : Bool) (vector front : List (Item Num)) (m : BTreeMap Rank ℕ) : Type 0 where
  pub ordered : IsOrdered rank_cmp m
  pub keyed : (q : Rank) → IfSome (get rank_cmp m q) (λ i. (q ≡ rank_at greatest vector i) × (i < length front))
  pub found : (i : ℕ) → i < length front → get rank_cmp m (rank_at greatest vector i) ≡ Some i
  pub sums : (weight : Item Num → ℕ) → sum_by (weigh_at vector weight) (values m) ≡ sum_by weight front

-- Whether an element is one of the first k of its part.
abbrev pub is_first : Bool → Num → Grouping → List (Item Num) → Item Num → Bool
is_first greatest k by vector e = is_within k (rank (order_toward greatest) by vector e)

-- The places seen have their marks, and the others none.
abbrev pub mark_of : List ℕ → ℕ → Bool → Bool
mark_of seen i b = list_any (λ p. p == i) seen && b

pub record AreMarks (greatest : Bool) (k : Num) (by : Grouping) (vector : List (Item Num)) (seen : List ℕ) (marks : List Bool) : Type 0 where
  pub long : length marks ≡ length vector
  pub marked : (i : ℕ) (e : Item Num) → slice_get vector i ≡ Some e → slice_get marks i ≡ Some (mark_of seen i (is_first greatest k by vector e))

-- How many elements of a group were seen.
abbrev pub in_group : Grouping → List Pair → Item Num → ℕ
in_group by group e = cond (labels_eq (group_of by e) group) 1 0

pub record AreSeen (by : Grouping) (vector : List (Item Num)) (seen : List ℕ) (m : BTreeMap (List Pair) ℕ) : Type 0 where
  pub counts : (q : List Pair) → unwrap_or (get labels_cmp m q) 0 ≡ sum_by (weigh_at vector (in_group by q)) seen

-- An element is counted, and marked by how many of its group were counted before.
pub record IsMarked (k : Num) (by : Grouping) (e : Item Num) (i : ℕ) (m : BTreeMap (List Pair) ℕ) (marks : List Bool) (n : BTreeMap (List Pair) ℕ) (marked : List Bool) : Type 0 where
  pub counted : Updates labels_cmp m n (group_of by e) (Some (unwrap_or (get labels_cmp m (group_of by e)) 0 + 1))
  pub mark : marked ≡ slice_set marks i (is_within k (unwrap_or (get labels_cmp m (group_of by e)) 0))
