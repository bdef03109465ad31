-- What is read of a head, said of the head alone.
use Rattle.std.specs.Prelude.{ℕ, ℤ, List, Option, option_and_then, slice_get}
use Rattle.std.specs.List.{filter_map}
use Rattle.std.specs.Option.{option_map}
use Rattle.pr_labels.specs.declared.pair.Pair.{Pair}
use Rattle.pr_labels.specs.declared.item.Item.{Item}
use Rattle.pr_range.specs.spec_history.declared.spot.Spot.{Spot}
use Rattle.pr_range.specs.pr_head.private.Stored.{Stored, newest_at}
use Rattle.pr_range.specs.pr_head.private.Reads.{spot_shown}
use Rattle.spec_meaning.specs.Selection.{shown_as}
use Rattle.pr_eval.specs.private.Choosing.{labels_of_series}

-- what a series shows at a moment, by its newest sample until then
abbrev pub spot_read : List (List Pair × Stored) → ℤ → ℕ → Option Spot
spot_read head x series = spot_shown x (option_and_then (λ e. newest_at e.1 x) (slice_get head series))

abbrev pub item_read : List (List Pair × Stored) → ℤ → ℕ → Option (Item Spot)
item_read head x series = option_map (shown_as (labels_of_series head series)) (spot_read head x series)

-- the same of many series
abbrev pub items_read : List (List Pair × Stored) → ℤ → List ℕ → List (Item Spot)
items_read head x numbers = filter_map (item_read head x) numbers
