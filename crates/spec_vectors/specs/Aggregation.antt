-- Aggregations: the parts of a vector, and what they give.
use Rattle.std.specs.Prelude.{ℕ, ◌/◌, ◌^◌, Bool, true, false, nat_lt, pos, negsuc, List, [], ◌∷◌, length, map, filter, fold, count_by, Result, Ok, Err}
use Rattle.std.specs.Ordering.{is_lt, nat_cmp, ordering_then}
use Rattle.std.specs.declared.cmp.Ordering.{Ordering}
use Rattle.std.specs.declared.cmp.Ordering.TheVariants.{Less, Equal, Greater}
use Rattle.pr_num.specs.declared.value.Num.{Num}
use Rattle.pr_num.specs.declared.value.Num.TheVariants.{Finite, NaN, PosInf, NegInf}
use Rattle.pr_num.specs.declared.value.TooWide.{TooWide}
use Rattle.pr_num.specs.Order.{order_of}
use Rattle.pr_num.specs.Arithmetic.{whole_of}
use Rattle.pr_num.specs.Quantile.{quantile_of}
use Rattle.pr_num.specs.Shown.{shown}
use Rattle.pr_num.specs.Total.{mean_of, total_of, value_of}
use Rattle.spec_history.specs.pr_labels.declared.pair.Pair.{Pair}
use Rattle.spec_history.specs.pr_labels.declared.item.Item.{Item}
use Rattle.spec_history.specs.pr_labels.declared.grouping.Grouping.{Grouping}
use Rattle.spec_history.specs.pr_labels.Edits.{key_labels, set_label}
use Rattle.spec_history.specs.pr_labels.Order.{labels_eq, labels_cmp}
use Rattle.spec_vectors.specs.Vectors.{element, in_label_order}

-- By which labels an element is grouped: with `by` the listed ones, with `without` those that are
-- not listed, without the metric's name.
abbrev pub group_of : Grouping → Item Num → List Pair
group_of by e = key_labels by.by e.labels by.names

-- The groups of a vector, in label order, each once, and the part of a group: its elements.
abbrev pub groups : Grouping → List (Item Num) → List (List Pair)
groups by vector = in_label_order (map (group_of by) vector)

abbrev pub part : Grouping → List (Item Num) → List Pair → List (Item Num)
part by vector group = filter (λ e. labels_eq (group_of by e) group) vector

abbrev pub values_of : List (Item Num) → List Num
values_of items = map (λ e. e.value) items

-- Each group has what the values of its part give; the first fault, in label order of the groups,
-- ends.
abbrev pub prepended : Item Num → Result (List (Item Num)) TooWide → Result (List (Item Num)) TooWide
prepended e (Ok rest) = Ok (e ∷ rest)
prepended e (Err fault) = Err fault

abbrev pub behind : List Pair → Result Num TooWide → Result (List (Item Num)) TooWide → Result (List (Item Num)) TooWide
behind group (Ok value) rest = prepended (element group value) rest
behind group (Err fault) rest = Err fault

abbrev pub group_answers : (List Pair → Result Num TooWide) → List (List Pair) → Result (List (Item Num)) TooWide
group_answers answer [] = Ok []
group_answers answer (group ∷ rest) = behind group (answer group) (group_answers answer rest)

abbrev pub of_groups : (List Num → Result Num TooWide) → Grouping → List (Item Num) → Result (List (Item Num)) TooWide
of_groups of_values by vector = group_answers (λ group. of_values (values_of (part by vector group))) (groups by vector)

-- An aggregation that always has a value.
abbrev pub always : (List Num → Num) → List Num → Result Num TooWide
always of_values values = Ok (of_values values)

-- The exact sum, and the mean: the exact sum over the count, rounded once.
abbrev pub sum_of_values : List Num → Result Num TooWide
sum_of_values values = value_of (total_of values)

abbrev pub mean_of_values : List Num → Num
mean_of_values values = mean_of (total_of values)

-- How many values there are, and one for any values.
abbrev pub count_of_values : List Num → Num
count_of_values values = whole_of (pos (length values))

abbrev pub one_of_values : List Num → Num
one_of_values values = whole_of (pos 1)

-- How a value stands to another: Less where it comes first. The greatest come first, or the least,
-- both times with NaN behind all others. (The order of values has NaN before all others.)
abbrev pub greatest_first : Num → Num → Ordering
greatest_first a b = order_of b a

abbrev pub nan_class : Num → ℕ
nan_class NaN = 1
nan_class (Finite a) = 0
nan_class PosInf = 0
nan_class NegInf = 0

abbrev pub least_first : Num → Num → Ordering
least_first a b = ordering_then (nat_cmp (nan_class a) (nan_class b)) (order_of a b)

-- Values in such an order: one after another is put in its place, behind those it ties.
abbrev pub value_placed : Ordering → Num → Num → List Num → List Num → List Num
value_placed Less v first rest more = v ∷ first ∷ rest
value_placed Equal v first rest more = first ∷ more
value_placed Greater v first rest more = first ∷ more

abbrev pub with_placed : (Num → Num → Ordering) → List Num → Num → List Num
with_placed order [] v = v ∷ []
with_placed order (first ∷ rest) v = value_placed (order v first) v first rest (with_placed order rest v)

abbrev pub in_value_order : (Num → Num → Ordering) → List Num → List Num
in_value_order order values = fold (with_placed order) [] values

-- The greatest and the least value: the first one in such an order, so that it is NaN only where
-- all are.
abbrev pub first_value : List Num → Num
first_value [] = NaN
first_value (v ∷ vs) = v

abbrev pub greatest_of_values : List Num → Num
greatest_of_values values = first_value (in_value_order greatest_first values)

abbrev pub least_of_values : List Num → Num
least_of_values values = first_value (in_value_order least_first values)

-- The quantile of values: of all of them in order, NaN first.
abbrev pub quantile_of_values : Num → List Num → Num
quantile_of_values phi values = quantile_of phi (in_value_order order_of values)

-- How an element stands to another of its part: by value, and at a tie in label order.
abbrev pub standing : (Num → Num → Ordering) → Item Num → Item Num → Ordering
standing order a b = ordering_then (order a.value b.value) (labels_cmp a.labels b.labels)

abbrev pub comes_before : (Num → Num → Ordering) → Item Num → Item Num → Bool
comes_before order a b = is_lt (standing order a b)

-- How many elements of its part come before an element.
abbrev pub rank : (Num → Num → Ordering) → Grouping → List (Item Num) → Item Num → ℕ
rank order by vector e = count_by (λ o. comes_before order o e) (part by vector (group_of by e))

-- Whether an element with so many before it is one of the first k: k is rounded down, and takes
-- nothing where it is NaN or below 1.
abbrev pub is_within : Num → ℕ → Bool
is_within (Finite (pos units)) n = nat_lt n (units / 10 ^ 9)
is_within (Finite (negsuc units)) n = false
is_within NaN n = false
is_within PosInf n = true
is_within NegInf n = false

-- The first k elements of each part, whole and in label order.
abbrev pub first_of_parts : (Num → Num → Ordering) → Num → Grouping → List (Item Num) → List (Item Num)
first_of_parts order k by vector = filter (λ e. is_within k (rank order by vector e)) vector

-- Elements are counted by their grouping labels with a label set to the printed value.
abbrev pub value_group : List ℕ → Grouping → Item Num → List Pair
value_group label by e = set_label (group_of by e) label (shown e.value)

abbrev pub value_count : List ℕ → Grouping → List (Item Num) → List Pair → Num
value_count label by vector group = whole_of (pos (count_by (λ e. labels_eq (value_group label by e) group) vector))

abbrev pub counted : List ℕ → Grouping → List (Item Num) → List (Item Num)
counted label by vector = map (λ group. element group (value_count label by vector group)) (in_label_order (map (value_group label by) vector))
