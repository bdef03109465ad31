-- Subqueries: an expression at many times, as series.
use Rattle.std.specs.Prelude.{ℕ, ◌+◌, ◌*◌, ◌/◌, ℤ, pos, negsuc, cond, nat_lt, List, [], ◌∷◌, filter, find, length, map, Option, Result, Ok, Err, flat_map}
use Rattle.std.specs.List.{filter_map, range_with_len}
use Rattle.std.specs.Option.{option_map}
use Rattle.pr_num.specs.declared.value.Num.{Num}
use Rattle.pr_ast.specs.pr_labels.declared.pair.Pair.{Pair}
use Rattle.pr_ast.specs.pr_labels.declared.item.Item.{Item}
use Rattle.pr_ast.specs.pr_labels.Order.{labels_eq}
use Rattle.spec_vectors.specs.spec_history.declared.spot.Spot.{Spot}
use Rattle.spec_vectors.specs.spec_history.Lookback.{is_after, spot_of}
use Rattle.pr_ast.specs.declared.place.Place.{Place}
use Rattle.spec_vectors.specs.Ranges.{longest}
use Rattle.spec_vectors.specs.Vectors.{in_label_order, label_sets}
use Rattle.spec_meaning.specs.declared.fault.Fault.{Fault}
use Rattle.spec_meaning.specs.declared.fault.FaultKind.TheVariants as kind
use Rattle.spec_meaning.specs.declared.value.Value.{Value}
use Rattle.spec_meaning.specs.Answers.{fault, go_on}
use Rattle.spec_meaning.specs.Given.{Ranged, elements_in}

-- the multiples of a step above one moment and at most another that are at least 0, rising
abbrev pub multiples : ℕ → ℤ → ℤ → List ℕ
multiples step a (pos b) = filter (is_after a) (map (λ k. k * step) (range_with_len 0 (b / step + 1)))
multiples step a (negsuc b) = []

-- a moment, and the elements that the expression has then
pub record Taken : Type 0 where
  pub time : ℕ
  pub items : List (Item Num)

-- the value that a label set has at a moment
abbrev pub spot_taken : List Pair → Taken → Option Spot
spot_taken labels t = option_map (λ e. spot_of t.time e.value) (find (λ e. labels_eq e.labels labels) t.items)

abbrev pub series_taken : List Taken → List Pair → Item (List Spot)
series_taken ts labels = record { labels = labels; value = filter_map (spot_taken labels) ts }

-- the label sets of all moments, in label order, each with its values
abbrev pub all_taken : List Taken → List (Item (List Spot))
all_taken ts = map (series_taken ts) (in_label_order (flat_map (λ t. label_sets t.items) ts))

-- an expression at each of these times; the first fault ends
abbrev pub taken_before : ℕ → Result Value Fault → Result (List Taken) Fault → Result (List Taken) Fault
taken_before time (Err f) rest = Err f
taken_before time (Ok v) (Err f) = Err f
taken_before time (Ok v) (Ok ts) = Ok (record { time = time; items = elements_in v } ∷ ts)

abbrev pub at_each : (ℕ → Result Value Fault) → List ℕ → Result (List Taken) Fault
at_each expr [] = Ok []
at_each expr (time ∷ times) = taken_before time (expr time) (at_each expr times)

-- A subquery over a range, by its expression; its step is the given one, or else the one of
-- subqueries that give none.
abbrev pub subquery_ranges : Place → (ℕ → Result Value Fault) → ℕ → ℤ → ℤ → Result Ranged Fault
subquery_ranges p expr step from to =
    let times = multiples step from to in
    cond (nat_lt longest (length times)) (Err (fault p (kind.RangeTooLong (length times))))
    (go_on (λ ts. Ok (record { place = p; from = from; to = to; series = all_taken ts })) (at_each expr times))
