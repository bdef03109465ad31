-- The quantile of a histogram, whose buckets are elements with their upper bounds as label `le`.
use Rattle.std.specs.Prelude.{ℕ, zero, suc, ◌+◌, ◌-◌, ◌==◌, ◌||◌, not, Bool, true, false, pos, List, [], ◌∷◌, codes, map, filter, fold, length, position, slice_index_or, nat_lt, Option, Some, None, is_some, unwrap_or, Result, Ok, Err, if◌then◌else◌}
use Rattle.std.specs.List.{list_any}
use Rattle.std.specs.Ordering.{is_eq, is_lt}
use Rattle.std.specs.declared.cmp.Ordering.{Ordering}
use Rattle.std.specs.declared.cmp.Ordering.TheVariants.{Less, Equal, Greater}
use Rattle.pr_num.specs.declared.value.Num.{Num}
use Rattle.pr_num.specs.declared.value.Num.TheVariants.{Finite, NaN, PosInf, NegInf}
use Rattle.pr_num.specs.declared.value.TooWide.{TooWide}
use Rattle.pr_num.specs.declared.text.NumFault.{NumFault}
use Rattle.pr_num.specs.Arithmetic.{sum_of, difference_of, product_of, quotient_of, whole_of}
use Rattle.pr_num.specs.Order.{order_of}
use Rattle.pr_num.specs.Reads.{reads}
use Rattle.pr_num.specs.Total.{total_of, value_of}
use Rattle.spec_history.specs.pr_labels.declared.pair.Pair.{Pair}
use Rattle.spec_history.specs.pr_labels.declared.item.Item.{Item}
use Rattle.spec_history.specs.pr_labels.Edits.{unlisted_labels}
use Rattle.spec_history.specs.pr_labels.LabelSet.{metric_label, text_at}
use Rattle.spec_history.specs.pr_labels.Order.{labels_eq}
use Rattle.spec_vectors.specs.declared.function_fault.FunctionFault.{FunctionFault}
use Rattle.spec_vectors.specs.declared.function_fault.FunctionFault.TheVariants as fault
use Rattle.spec_vectors.specs.declared.bucket.Bucket.{Bucket}
use Rattle.spec_vectors.specs.Vectors.{element, in_label_order}

-- a bucket: its upper bound, and how many observations are at most that
abbrev pub bucket : Num → Num → Bucket
bucket bound count = record { bound = bound; count = count }

-- The bound that the label `le` names, if it is a number; an element with none is passed over.
abbrev pub number_read : Result Num NumFault → Option Num
number_read (Ok (Finite units)) = Some (Finite units)
number_read (Ok PosInf) = Some PosInf
number_read (Ok NegInf) = Some NegInf
number_read (Ok NaN) = None
number_read (Err e) = None

abbrev pub bound_of : Item Num → Option Num
bound_of e = number_read (reads (text_at e.labels (codes "le")))

abbrev pub is_bucket : Item Num → Bool
is_bucket e = is_some (bound_of e)

abbrev pub bucket_of : Item Num → Bucket
bucket_of e = bucket (unwrap_or (bound_of e) NaN) e.value

-- The buckets are grouped by their labels without the metric's name and `le`.
abbrev pub histogram_labels : Item Num → List Pair
histogram_labels e = unlisted_labels e.labels (metric_label ∷ codes "le" ∷ [])

abbrev pub histograms : List (Item Num) → List (List Pair)
histograms items = in_label_order (map histogram_labels (filter is_bucket items))

abbrev pub buckets_in : List Pair → List (Item Num) → List Bucket
buckets_in labels items = map bucket_of (filter (λ e. labels_eq (histogram_labels e) labels) (filter is_bucket items))

-- The bounds of a histogram rise, each once.
abbrev pub bound_placed : Ordering → Num → Num → List Num → List Num → List Num
bound_placed Less bound first rest more = bound ∷ first ∷ rest
bound_placed Equal bound first rest more = first ∷ rest
bound_placed Greater bound first rest more = first ∷ more

abbrev pub with_bound : List Num → Num → List Num
with_bound [] bound = bound ∷ []
with_bound (first ∷ rest) bound = bound_placed (order_of bound first) bound first rest (with_bound rest bound)

abbrev pub bounds : List Bucket → List Num
bounds buckets = fold with_bound [] (map (λ b. b.bound) buckets)

-- Counts of equal bounds are added, exactly, and the sum is tested once.
abbrev pub has_bound : Num → Bucket → Bool
has_bound bound b = is_eq (order_of b.bound bound)

abbrev pub count_at : List Bucket → Num → Result Num TooWide
count_at buckets bound = value_of (total_of (map (λ b. b.count) (filter (has_bound bound) buckets)))

abbrev pub next_bucket : Num → Result Num TooWide → Result (List Bucket) TooWide → Result (List Bucket) TooWide
next_bucket bound (Ok count) (Ok rest) = Ok (bucket bound count ∷ rest)
next_bucket bound (Ok count) (Err e) = Err e
next_bucket bound (Err e) rest = Err e

abbrev pub counted_at : (Num → Result Num TooWide) → List Num → Result (List Bucket) TooWide
counted_at count [] = Ok []
counted_at count (bound ∷ more) = next_bucket bound (count bound) (counted_at count more)

abbrev pub merged : List Bucket → Result (List Bucket) TooWide
merged buckets = counted_at (count_at buckets) (bounds buckets)

-- Each count becomes the greatest so far.
abbrev pub greatest : Num → Num → Num
greatest a b = if is_lt (order_of a b) then b else a

abbrev pub raised_from : Num → List Bucket → List Bucket
raised_from most [] = []
raised_from most (b ∷ rest) = bucket b.bound (greatest most b.count) ∷ raised_from (greatest most b.count) rest

abbrev pub raised : List Bucket → List Bucket
raised buckets = raised_from NegInf buckets

-- 1. No number where phi or a count is none, a count is infinite, there are fewer than two buckets,
--    the last bound is not the infinity above, or the last count is 0.
abbrev pub is_special : Num → Bool
is_special (Finite a) = false
is_special NaN = true
is_special PosInf = true
is_special NegInf = true

abbrev pub no_bucket : Bucket
no_bucket = bucket NaN NaN

abbrev pub bucket_at : List Bucket → ℕ → Bucket
bucket_at buckets i = slice_index_or buckets i no_bucket

abbrev pub last_bucket : List Bucket → Bucket
last_bucket buckets = bucket_at buckets (length buckets - 1)

abbrev pub is_same : Num → Num → Bool
is_same a b = is_eq (order_of a b)

abbrev pub zero_value : Num
zero_value = whole_of (pos 0)

abbrev pub has_no_quantile : Num → List Bucket → Bool
has_no_quantile phi buckets =
    is_same phi NaN || list_any (λ b. is_special b.count) buckets || nat_lt (length buckets) 2
    || not (is_same (last_bucket buckets).bound PosInf) || is_same (last_bucket (raised buckets)).count zero_value

-- 6. With the other rules: between two bounds the quantile lies as far as the rank lies between
--    their counts. Each operation is rounded by itself.
abbrev pub then_value : Result Num TooWide → (Num → Result Num TooWide) → Result Num TooWide
then_value (Ok v) f = f v
then_value (Err e) f = Err e

abbrev pub part_way : Num → Num → Num → Num → Result Num TooWide
part_way start end missing width =
    then_value (difference_of end start) (λ span.
    then_value (quotient_of missing width) (λ share.
    then_value (product_of span share) (λ step.
    sum_of start step)))

-- 5. From the bucket before, with its bound and its count: where the bucket has no more than that,
--    its start.
abbrev pub inside : Num → Num → Num → Bucket → Result Num TooWide
inside rank start before b =
    then_value (difference_of b.count before) (λ width.
    if is_same width zero_value then Ok start
    else then_value (difference_of rank before) (λ missing. part_way start b.bound missing width))

-- 4. The first bucket starts at 0, unless its bound is no more than that.
abbrev pub in_first : Num → Bucket → Result Num TooWide
in_first rank b =
    if is_lt (order_of zero_value b.bound) then inside rank zero_value zero_value b
    else Ok b.bound

abbrev pub in_bucket : Num → List Bucket → ℕ → Result Num TooWide
in_bucket rank buckets zero = in_first rank (bucket_at buckets 0)
in_bucket rank buckets (suc i) =
    inside rank (bucket_at buckets i).bound (bucket_at buckets i).count (bucket_at buckets (suc i))

-- 3. The bucket of a rank is the first one whose count is at least that, else the last; for the
--    last bucket the answer is the second highest bound.
abbrev pub reaches : Num → Bucket → Bool
reaches rank b = not (is_lt (order_of b.count rank))

abbrev pub bucket_place : Num → List Bucket → ℕ
bucket_place rank buckets = unwrap_or (position (reaches rank) buckets) (length buckets - 1)

abbrev pub at_place : Num → List Bucket → ℕ → Result Num TooWide
at_place rank buckets place =
    if place + 1 == length buckets then Ok (bucket_at buckets (length buckets - 2)).bound
    else in_bucket rank buckets place

abbrev pub at_rank : List Bucket → Num → Result Num TooWide
at_rank buckets rank = at_place rank buckets (bucket_place rank buckets)

-- 2. Below 0 and above 1 there are the infinities.
abbrev pub quantile_in : Num → List Bucket → Result Num TooWide
quantile_in phi buckets =
    if has_no_quantile phi buckets then Ok NaN
    else (if is_lt (order_of phi zero_value) then Ok NegInf
    else (if is_lt (order_of (whole_of (pos 1)) phi) then Ok PosInf
    else then_value (product_of phi (last_bucket (raised buckets)).count) (at_rank (raised buckets))))

-- The quantile of a histogram whose buckets are in any order.
abbrev pub quantile_of_merged : Num → Result (List Bucket) TooWide → Result Num TooWide
quantile_of_merged phi (Ok buckets) = quantile_in phi buckets
quantile_of_merged phi (Err e) = Err e

abbrev pub histogram_value : Num → List Bucket → Result Num TooWide
histogram_value phi buckets = quantile_of_merged phi (merged buckets)

-- The answer has an element for each histogram; it is too wide where one of them is.
abbrev pub next_element : List Pair → Result Num TooWide → Result (List (Item Num)) FunctionFault → Result (List (Item Num)) FunctionFault
next_element labels (Ok value) (Ok rest) = Ok (element labels value ∷ rest)
next_element labels (Ok value) (Err e) = Err e
next_element labels (Err e) rest = Err fault.TooWide

abbrev pub elements_by : (List Pair → Result Num TooWide) → List (List Pair) → Result (List (Item Num)) FunctionFault
elements_by value [] = Ok []
elements_by value (labels ∷ more) = next_element labels (value labels) (elements_by value more)

abbrev pub histogram_quantiles : Num → List (Item Num) → Result (List (Item Num)) FunctionFault
histogram_quantiles phi items = elements_by (λ labels. histogram_value phi (buckets_in labels items)) (histograms items)
