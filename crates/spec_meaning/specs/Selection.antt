-- What a selector shows at a moment.
use Rattle.std.specs.Prelude.{ℕ, pos, ℤ, ◌-ℤ◌, List, map}
use Rattle.std.specs.List.{filter_map}
use Rattle.std.specs.Option.{option_map}
use Rattle.pr_num.specs.declared.value.Num.{Num}
use Rattle.pr_ast.specs.pr_labels.declared.pair.Pair.{Pair}
use Rattle.pr_ast.specs.pr_labels.declared.item.Item.{Item}
use Rattle.spec_vectors.specs.spec_history.declared.entry.Entry.{Entry}
use Rattle.spec_vectors.specs.spec_history.declared.spot.Spot.{Spot}
use Rattle.spec_vectors.specs.spec_history.Lookback.{spot_at}
use Rattle.spec_vectors.specs.spec_history.Series.{chosen}
use Rattle.pr_match.specs.Matcher.{meets_all}
use Rattle.pr_ast.specs.declared.selector.Selector.{Selector}
use Rattle.pr_types.specs.Selectors.{tests_of}
use Rattle.spec_vectors.specs.Vectors.{element}

-- the label sets of the history that meet the name and each matcher, in label order, each once
abbrev pub chosen_by : Selector → List Entry → List (List Pair)
chosen_by s history = chosen (meets_all (tests_of s)) history

-- the moment that a selector looks at: a time less its offset
abbrev pub moment_of : Selector → ℕ → ℤ
moment_of s time = pos time -ℤ pos s.offset

-- a label set with what its series shows
abbrev pub shown_as : List Pair → Spot → Item Spot
shown_as labels spot = record { labels = labels; value = spot }

-- these series, each with what it shows at the moment and the time of that value, where it shows
-- one
abbrev pub spots_at : List Entry → ℤ → List (List Pair) → List (Item Spot)
spots_at history x sets = filter_map (λ labels. option_map (shown_as labels) (spot_at history x labels)) sets

-- the chosen series with what they show
abbrev pub selected_spots : List Entry → Selector → ℕ → List (Item Spot)
selected_spots history s time = spots_at history (moment_of s time) (chosen_by s history)

-- with their values alone
abbrev pub valued : Item Spot → Item Num
valued e = element e.labels e.value.value

abbrev pub selection : List Entry → Selector → ℕ → List (Item Num)
selection history s time = map valued (selected_spots history s time)
