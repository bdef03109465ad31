-- The series of a subquery, gathered time by time.
use Rattle.std.specs.Prelude.{◌≡◌, ◌++◌, ℕ, ℤ, slice_get, List, [], ◌∷◌, map, flat_map, Option, Some, None}
use Rattle.std.specs.BTreeMap.{BTreeMap}
use Rattle.pr_num.specs.declared.value.Num.{Num}
use Rattle.pr_labels.specs.declared.pair.Pair.{Pair}
use Rattle.pr_labels.specs.declared.item.Item.{Item}
use Rattle.pr_labels.specs.Order.{labels_cmp}
use Rattle.pr_range.specs.spec_history.declared.spot.Spot.{Spot}
use Rattle.pr_range.specs.spec_history.Lookback.{spot_of}
use Rattle.pr_range.specs.spec_vectors.private.Laws.{IsVector}
use Rattle.spec_meaning.specs.Given.{Ranged}
use Rattle.spec_meaning.specs.Subqueries.{Taken, all_taken}
use Rattle.pr_range.specs.private.Spots.{AreWithin}
use Rattle.pr_fn.specs.private.Gathered.{AreGathered}
use Rattle.pr_eval.specs.declared.range_calls.of_subquery.SubqueryRange.{SubqueryRange}

-- the elements that an expression has at a time
abbrev pub taken : ℕ → List (Item Num) → Taken
taken time items = record { time = time; items = items }

-- the elements of one time and of many, each with its time
abbrev pub item_at : ℕ → Item Num → Item Spot
item_at time e = record { labels = e.labels; value = spot_of time e.value }

abbrev pub timed_in : Taken → List (Item Spot)
timed_in t = map (item_at t.time) t.items

abbrev pub all_timed : List Taken → List (Item Spot)
all_timed ts = flat_map timed_in ts

abbrev pub spot_labels : Item Spot → List Pair
spot_labels e = e.labels

-- the values of some elements
abbrev pub spots_listed : List (Item Spot) → Option (List Spot)
spots_listed [] = None
spots_listed (e ∷ es) = Some (map (λ s. s.value) (e ∷ es))

abbrev pub spots_with : Option (List Spot) → Spot → List Spot
spots_with None s = s ∷ []
spots_with (Some spots) s = spots ++ s ∷ []

-- A map has the values of each label set that came at one of these times, in order of the times.
abbrev pub IsGathered : List (Item Spot) → BTreeMap (List Pair) (List Spot) → Type 0
IsGathered front series = AreGathered labels_cmp spot_labels spots_listed front series

pub record AreTaken (ts : List Taken) (series : BTreeMap (List Pair) (List Spot)) : Type 0 where
  pub gathered : IsGathered (all_timed ts) series
  pub vectors : (i : ℕ) (t : Taken) → slice_get ts i ≡ Some t → IsVector t.items

-- the series of a map, in label order, and what a subquery gives over them
abbrev pub entry_series : List Pair × List Spot → Item (List Spot)
entry_series e = record { labels = e.0; value = e.1 }

abbrev pub series_in : BTreeMap (List Pair) (List Spot) → List (Item (List Spot))
series_in series = map entry_series series.entries

abbrev pub ranged_of : SubqueryRange → List Taken → Ranged
ranged_of r ts = record { place = r.place; from = r.from; to = r.to; series = all_taken ts }

-- the values of each series rise and lie in a range
abbrev pub AreAllWithin : ℤ → ℤ → List (Item (List Spot)) → Type 0
AreAllWithin from to [] = Unit {0}
AreAllWithin from to (s ∷ series) = AreWithin from to s.value × AreAllWithin from to series
