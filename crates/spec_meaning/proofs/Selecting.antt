-- What a selector shows is in label order.
use Rattle.std.proofs.Common.{◌≡◌, ℕ, ℤ, List, [], ◌∷◌, map, Option, Some, None, refl, ap, subst, sym}
use Rattle.std.specs.List.{cons_option}
use Rattle.std.specs.Option.{option_map}
use Rattle.pr_ast.specs.pr_labels.declared.pair.Pair.{Pair}
use Rattle.pr_ast.specs.pr_labels.declared.item.Item.{Item}
use Rattle.pr_ast.specs.pr_labels.Rising.{IsBelowFirstSet, IsRising}
use Rattle.pr_ast.proofs.LabelsLabelOrder.{below_next}
use Rattle.spec_vectors.specs.spec_history.declared.entry.Entry.{Entry}
use Rattle.spec_vectors.specs.spec_history.declared.spot.Spot.{Spot}
use Rattle.spec_vectors.specs.spec_history.Lookback.{spot_at}
use Rattle.spec_vectors.proofs.HistoryChoosing.{chosen_rising}
use Rattle.pr_ast.specs.declared.selector.Selector.{Selector}
use Rattle.pr_match.specs.Matcher.{meets_all}
use Rattle.pr_types.specs.Selectors.{tests_of}
use Rattle.spec_vectors.specs.private.Laws.{IsVector}
use Rattle.spec_vectors.specs.Vectors.{label_sets}
use Rattle.spec_meaning.specs.Selection.{chosen_by, moment_of, selected_spots, selection, shown_as, spots_at, valued}

abbrev pub sets_in : List (Item Spot) → List (List Pair)
sets_in items = map (λ e. e.labels) items

abbrev sets_after : List Pair → Option Spot → List (Item Spot) → List (List Pair)
sets_after labels spot items = sets_in (cons_option (option_map (shown_as labels) spot) items)

below_spots : (history : List Entry) (x : ℤ) (labels : List Pair) (sets : List (List Pair)) → IsBelowFirstSet labels sets → IsRising sets
    → IsBelowFirstSet labels (sets_in (spots_at history x sets))
below_spots history x labels [] h k = tt
below_spots history x labels (first ∷ rest) h k = by (spot_at history x first) (below_spots history x labels rest (below_next labels first rest h k.0) k.1) where
  by : (spot : Option Spot) → IsBelowFirstSet labels (sets_in (spots_at history x rest)) → IsBelowFirstSet labels (sets_after first spot (spots_at history x rest))
  by (Some v) more = h
  by None more = more

spots_rising : (history : List Entry) (x : ℤ) (sets : List (List Pair)) → IsRising sets → IsRising (sets_in (spots_at history x sets))
spots_rising history x [] h = tt
spots_rising history x (first ∷ rest) h = by (spot_at history x first) (below_spots history x first rest h.0 h.1) (spots_rising history x rest h.1) where
  by : (spot : Option Spot) → IsBelowFirstSet first (sets_in (spots_at history x rest)) → IsRising (sets_in (spots_at history x rest)) → IsRising (sets_after first spot (spots_at history x rest))
  by (Some v) below more = (below, more)
  by None below more = more

pub chosen_by_rising : (history : List Entry) (s : Selector) → IsRising (chosen_by s history)
chosen_by_rising history s = chosen_rising (meets_all (tests_of s)) history

pub selected_rising : (history : List Entry) (s : Selector) (time : ℕ) → IsRising (map (λ e. e.labels) (selected_spots history s time))
selected_rising history s time = spots_rising history (moment_of s time) (chosen_by s history) (chosen_by_rising history s)

-- values alone have the same labels
pub valued_sets : (items : List (Item Spot)) → label_sets (map valued items) ≡ map (λ e. e.labels) items
valued_sets [] = refl
valued_sets (e ∷ items) = ap (λ l. e.labels ∷ l) (valued_sets items)

pub selection_vector : (history : List Entry) (s : Selector) (time : ℕ) → IsVector (selection history s time)
selection_vector history s time = subst IsRising (sym (valued_sets (selected_spots history s time))) (selected_rising history s time)
