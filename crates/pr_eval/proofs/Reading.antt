-- What is read of a head is what the history shows.
use Rattle.std.proofs.Common.{◌≡◌, ℕ, zero, suc, ℤ, ◌+◌, ◌<◌, ◌≤◌, List, [], ◌∷◌, length, get_or, map, slice_get, Option, Some, None, option_and_then, refl, sym, ap, subst, ◌∙◌, arith}
use Rattle.std.specs.List.{All, cons_option}
use Rattle.std.specs.Option.{option_map}
use Rattle.std.proofs.lemmas.List.{length-map}
use Rattle.pr_labels.specs.declared.pair.Pair.{Pair}
use Rattle.pr_labels.specs.declared.item.Item.{Item}
use Rattle.pr_labels.specs.Rising.{IsBelowFirstSet, IsRising}
use Rattle.pr_range.specs.spec_history.declared.entry.Entry.{Entry}
use Rattle.pr_range.specs.spec_history.declared.spot.Spot.{Spot}
use Rattle.pr_range.specs.spec_history.Lookback.{spot_at}
use Rattle.pr_range.specs.pr_head.private.Stored.{Stored, newest_at}
use Rattle.pr_range.specs.pr_head.private.Holds.{sets_of}
use Rattle.pr_range.specs.pr_head.private.Reads.{spot_shown}
use Rattle.pr_range.proofs.HeadNewest.{newest_is_shown}
use Rattle.pr_range.proofs.HeadSimulation.{set_at}
use Rattle.pr_ast.specs.declared.selector.Selector.{Selector}
use Rattle.pr_num.specs.declared.value.Num.{Num}
use Rattle.pr_labels.proofs.LabelOrder.{below_next}
use Rattle.pr_range.specs.spec_vectors.private.Laws.{IsVector}
use Rattle.pr_range.specs.spec_vectors.Vectors.{label_sets}
use Rattle.spec_meaning.specs.Selection.{chosen_by, moment_of, selected_spots, shown_as, spots_at, valued}
use Rattle.spec_meaning.proofs.Selecting.{sets_in}
use Rattle.pr_eval.specs.private.Looks.{KeepsAt}
use Rattle.pr_eval.specs.private.Choosing.{labels_of_series}
use Rattle.pr_eval.specs.private.Reading.{items_read, spot_read}

abbrev Series : Type 0
Series = List Pair × Stored

-- the labels at a place, and what stands there
named_at : (sets : List (List Pair)) (i : ℕ) (l : List Pair) → slice_get sets i ≡ Some l → get_or sets i [] ≡ l
named_at [] i l h = cc
named_at (first ∷ sets) zero l h = cc
named_at (first ∷ sets) (suc i) l h = named_at sets i l h

there : (head : List Series) (i : ℕ) → i < length head → (e : Series) × (slice_get head i ≡ Some e)
there [] i h = absurd (omega arith)
there (e ∷ head) zero h = (e, refl)
there (e ∷ head) (suc i) h = there head i (omega arith)

-- one series
spot_is : (head : List Series) (history : List Entry) (x : ℤ) (i : ℕ) → KeepsAt head history x → i < length head → spot_read head x i ≡ spot_at history x (labels_of_series head i)
spot_is head history x i keeps within =
    let found = there head i within in
    let e = found.0 in
    let named = named_at (sets_of head) i e.0 (set_at head i e found.1) in
    ap (λ o. spot_shown x (option_and_then (λ (s : Series). newest_at s.1 x) o)) found.1
    ∙ sym (newest_is_shown history x keeps.forgotten e.0 e.1 keeps.lawful (keeps.holds.each i e found.1) (keeps.whole i e found.1) keeps.past)
    ∙ ap (spot_at history x) (sym named)

-- many series
items_are : (head : List Series) (history : List Entry) (x : ℤ) (numbers : List ℕ) → KeepsAt head history x → All (λ i. i < length head) numbers
    → items_read head x numbers ≡ spots_at history x (map (labels_of_series head) numbers)
items_are head history x [] keeps known = refl
items_are head history x (i ∷ numbers) keeps known =
    let first : i < length head = known 0 i (omega arith) in
    let labels = labels_of_series head i in
    ap (λ o. cons_option (option_map (shown_as labels) o) (items_read head x numbers)) (spot_is head history x i keeps first)
    ∙ ap (cons_option (option_map (shown_as labels) (spot_at history x labels))) (items_are head history x numbers keeps (λ k d h. known (suc k) d (omega arith)))

-- what is read of series in label order is in label order

below_read : (head : List Series) (x : ℤ) (labels : List Pair) (numbers : List ℕ) → IsBelowFirstSet labels (map (labels_of_series head) numbers) → IsRising (map (labels_of_series head) numbers)
    → IsBelowFirstSet labels (sets_in (items_read head x numbers))
below_read head x labels [] h k = tt
below_read head x labels (i ∷ numbers) h k = by (spot_read head x i) (below_read head x labels numbers (below_next labels (labels_of_series head i) (map (labels_of_series head) numbers) h k.0) k.1) where
  by : (spot : Option Spot) → IsBelowFirstSet labels (sets_in (items_read head x numbers)) → IsBelowFirstSet labels (sets_in (cons_option (option_map (shown_as (labels_of_series head i)) spot) (items_read head x numbers)))
  by (Some v) more = h
  by None more = more

read_rises : (head : List Series) (x : ℤ) (numbers : List ℕ) → IsRising (map (labels_of_series head) numbers) → IsRising (sets_in (items_read head x numbers))
read_rises head x [] h = tt
read_rises head x (i ∷ numbers) h = by (spot_read head x i) (below_read head x (labels_of_series head i) numbers h.0 h.1) (read_rises head x numbers h.1) where
  by : (spot : Option Spot) → IsBelowFirstSet (labels_of_series head i) (sets_in (items_read head x numbers)) → IsRising (sets_in (items_read head x numbers))
      → IsRising (sets_in (cons_option (option_map (shown_as (labels_of_series head i)) spot) (items_read head x numbers)))
  by (Some v) below more = (below, more)
  by None below more = more

-- what a selector shows
pub spots_are : (head : List Series) (history : List Entry) (s : Selector) (time : ℕ) (x : ℤ) (numbers : List ℕ) (items : List (Item Spot)) → items ≡ items_read head x numbers
    → x ≡ moment_of s time → All (λ i. i < length head) numbers → map (labels_of_series head) numbers ≡ chosen_by s history → KeepsAt head history (moment_of s time) → items ≡ selected_spots history s time
spots_are head history s time x numbers items are moment known found keeps =
    are ∙ ap (λ y. items_read head y numbers) moment ∙ items_are head history (moment_of s time) numbers keeps known ∙ ap (spots_at history (moment_of s time)) found

pub spots_rise : (head : List Series) (x : ℤ) (numbers : List ℕ) (items : List (Item Spot)) → items ≡ items_read head x numbers
    → IsRising (map (labels_of_series head) numbers) → IsRising (sets_in items)
spots_rise head x numbers items are rising = subst (λ (es : List (Item Spot)). IsRising (sets_in es)) (sym are) (read_rises head x numbers rising)

pub as_many : (head : List Series) (numbers : List ℕ) (sets : List (List Pair)) (n m : ℕ) → n ≤ m + length numbers → map (labels_of_series head) numbers ≡ sets → n ≤ m + length sets
as_many head numbers sets n m h is = let size = ap length is in omega (arith, length-map numbers (labels_of_series head))

-- the values alone have the same labels
valued_labels : (items : List (Item Spot)) → label_sets (map valued items) ≡ sets_in items
valued_labels [] = refl
valued_labels (e ∷ items) = ap (λ sets. e.labels ∷ sets) (valued_labels items)

pub valued_rise : (items : List (Item Spot)) (values : List (Item Num)) → values ≡ map valued items → IsRising (map (λ e. e.labels) items) → IsVector values
valued_rise items values are rising = subst IsVector (sym are) (subst IsRising (sym (valued_labels items)) rising)
