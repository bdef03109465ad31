-- What the arguments of a call or an aggregation give.
use Rattle.std.specs.Prelude.{ℕ, ℤ, ◌-ℤ◌, pos, List, [], map, slice_get, option_and_then, unwrap_or, Option, Some, None}
use Rattle.std.specs.Option.{option_map}
use Rattle.pr_num.specs.declared.value.Num.{Num}
use Rattle.pr_num.specs.declared.value.Num.TheVariants.{NaN}
use Rattle.pr_ast.specs.pr_labels.declared.pair.Pair.{Pair}
use Rattle.pr_ast.specs.pr_labels.declared.item.Item.{Item}
use Rattle.spec_vectors.specs.spec_history.declared.entry.Entry.{Entry}
use Rattle.spec_vectors.specs.spec_history.declared.spot.Spot.{Spot}
use Rattle.spec_vectors.specs.spec_history.Lookback.{spots_within}
use Rattle.pr_ast.specs.declared.place.Place.{Place}
use Rattle.pr_ast.specs.declared.selector.Selector.{Selector}
use Rattle.spec_meaning.specs.declared.value.Value.{Value}
use Rattle.spec_meaning.specs.declared.value.Value.TheVariants.{Scalar, Vector}
use Rattle.spec_meaning.specs.Selection.{chosen_by, moment_of}

-- What a range selector or a subquery gives: the values of series in the range above one moment and
-- at most another, in label order of the series. It has a place, at which a series with too many
-- values is told.
pub record Ranged : Type 0 where
  pub place : Place
  pub from : ℤ
  pub to : ℤ
  pub series : List (Item (List Spot))

-- What an argument gives: its value, and where it is a range, the values of its series. (A text
-- gives neither: it is looked up in the tree.)
pub record Given : Type 0 where
  pub value : Value
  pub ranges : Option Ranged

-- the values of a range selector; the range ends at the moment that its selector looks at
abbrev pub series_within : List Entry → ℤ → ℤ → List Pair → Item (List Spot)
series_within history a b labels = record { labels = labels; value = spots_within history labels a b }

abbrev pub range_at : List Entry → Place → Selector → ℕ → ℕ → Ranged
range_at history p s span time =
    let to = moment_of s time in
    let from = to -ℤ pos span in
    record { place = p; from = from; to = to; series = map (series_within history from to) (chosen_by s history) }

-- the elements of a vector; a scalar has none
abbrev pub elements_in : Value → List (Item Num)
elements_in (Scalar v) = []
elements_in (Vector items) = items

-- the number of a scalar; a vector has none
abbrev pub scalar_in : Value → Option Num
scalar_in (Scalar v) = Some v
scalar_in (Vector items) = None

-- what the argument at a place gives, as it is wanted there
abbrev pub elements_given : List Given → ℕ → List (Item Num)
elements_given gs i = unwrap_or (option_map (λ g. elements_in g.value) (slice_get gs i)) []

abbrev pub number_or : Num → List Given → ℕ → Num
number_or default gs i = unwrap_or (option_and_then (λ g. scalar_in g.value) (slice_get gs i)) default

abbrev pub number_given : List Given → ℕ → Num
number_given gs i = number_or NaN gs i

abbrev pub ranges_given : List Given → ℕ → Option Ranged
ranges_given gs i = option_and_then (λ g. g.ranges) (slice_get gs i)
