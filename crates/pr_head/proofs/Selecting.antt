-- Series in label order: those that are chosen of some in label order are in label order, each once.
use Rattle.std.proofs.Common.{◌≡◌, ℕ, zero, suc, ◌<◌, Bool, true, false, cond, ◌&&◌, List, [], ◌∷◌, length, slice_get, map, filter, Some, refl, sym, ap, ◌∙◌, arith}
use Rattle.std.specs.List.{All}
use Rattle.std.specs.Map.{keys_of, values_of}
use Rattle.std.proofs.lemmas.List.Elements.{All-cons, All-nil}
use Rattle.pr_labels.specs.declared.pair.Pair.{Pair}
use Rattle.pr_labels.specs.Rising.{IsBelowFirstSet, IsRising, is_among}
use Rattle.pr_labels.proofs.LabelOrder.{below_next, rising_fold, among_fold, among_filter, same_rising}
use Rattle.spec_history.specs.declared.entry.Entry.{Entry}
use Rattle.spec_history.specs.Series.{chosen}
use Rattle.spec_history.specs.private.Laws.{has_values}
use Rattle.spec_history.proofs.Choosing.{chosen_rising, chosen_among}
use Rattle.pr_head.specs.private.Holds.{arrivals, chosen_of, labels_at}
use Rattle.pr_head.specs.private.Index.{AreNumbered, IsEnough, Numbered}
use Rattle.pr_head.proofs.Arrivals.{among_arrivals}

abbrev Sets : Type 0
Sets = List (List Pair)

-- those that are chosen of some series, and their numbers
abbrev picked : List Pair → Numbered → Numbered
picked equal es = filter (λ e. has_values equal e.0) es

numbered_at : (sets : Sets) (i : ℕ) (l : List Pair) → slice_get sets i ≡ Some l → labels_at sets i ≡ l
numbered_at [] i l h = cc
numbered_at (s ∷ sets) zero l h = cc
numbered_at (s ∷ sets) (suc i) l h = numbered_at sets i l h

number_below : (sets : Sets) (i : ℕ) (l : List Pair) → slice_get sets i ≡ Some l → i < length sets
number_below [] i l h = cc
number_below (s ∷ sets) zero l h = omega arith
number_below (s ∷ sets) (suc i) l h = let rest = number_below sets i l h in omega arith

pub picked_known : (equal : List Pair) (sets : Sets) (es : Numbered) → AreNumbered sets es → All (λ i. i < length sets) (values_of (picked equal es))
picked_known equal sets [] h = All-nil (λ i. i < length sets)
picked_known equal sets (e ∷ es) h = by (has_values equal e.0) (picked_known equal sets es h.1) where
  by : (b : Bool) → All (λ i. i < length sets) (values_of (picked equal es)) → All (λ i. i < length sets) (values_of (cond b (e ∷ picked equal es) (picked equal es)))
  by true rest = All-cons (λ i. i < length sets) e.1 (values_of (picked equal es)) (number_below sets e.1 e.0 h.0) rest
  by false rest = rest

-- their labels are those of the series that have the values
picked_labels : (equal : List Pair) (sets : Sets) (es : Numbered) → AreNumbered sets es → map (labels_at sets) (values_of (picked equal es)) ≡ filter (has_values equal) (keys_of es)
picked_labels equal sets [] h = refl
picked_labels equal sets (e ∷ es) h = by (has_values equal e.0) (picked_labels equal sets es h.1) where
  by : (b : Bool) → map (labels_at sets) (values_of (picked equal es)) ≡ filter (has_values equal) (keys_of es)
      → map (labels_at sets) (values_of (cond b (e ∷ picked equal es) (picked equal es))) ≡ cond b (e.0 ∷ filter (has_values equal) (keys_of es)) (filter (has_values equal) (keys_of es))
  by true rest = λ j. numbered_at sets e.1 e.0 h.0 j ∷ rest j
  by false rest = rest

-- what passes of a rising list rises
below_filter : (test : List Pair → Bool) (l : List Pair) (sets : Sets) → IsBelowFirstSet l sets → IsRising sets → IsBelowFirstSet l (filter test sets)
below_filter test l [] h up = tt
below_filter test l (s ∷ sets) h up = by (test s) (below_filter test l sets (below_next l s sets h up.0) up.1) where
  by : (b : Bool) → IsBelowFirstSet l (filter test sets) → IsBelowFirstSet l (cond b (s ∷ filter test sets) (filter test sets))
  by true rest = h
  by false rest = rest

rising_filter : (test : List Pair → Bool) (sets : Sets) → IsRising sets → IsRising (filter test sets)
rising_filter test [] h = tt
rising_filter test (s ∷ sets) h = by (test s) (rising_filter test sets h.1) where
  by : (b : Bool) → IsRising (filter test sets) → IsRising (cond b (s ∷ filter test sets) (filter test sets))
  by true rest = (below_filter test s sets h.0 h.1, rest)
  by false rest = rest

-- so they are the chosen ones
pub select_chosen : (equal : List Pair) (sets : Sets) (es : Numbered) → IsEnough equal sets es → map (labels_at sets) (values_of (picked equal es)) ≡ chosen_of (has_values equal) sets
select_chosen equal sets es h =
    picked_labels equal sets es h.numbers
    ∙ same_rising (filter (has_values equal) (keys_of es)) (chosen_of (has_values equal) sets) (rising_filter (has_values equal) (keys_of es) h.rising) (rising_fold [] (filter (has_values equal) sets) tt)
    (λ one. among_filter (has_values equal) one (keys_of es) ∙ by one (has_values equal one) refl ∙ sym (among_fold one [] (filter (has_values equal) sets) ∙ among_filter (has_values equal) one sets)) where
      by : (one : List Pair) (b : Bool) → has_values equal one ≡ b → (b && is_among one (keys_of es)) ≡ (b && is_among one sets)
      by one true is = h.wanted one is
      by one false is = refl

-- and the chosen label sets are those of the history
pub chosen_arrivals : (test : List Pair → Bool) (history : List Entry) → chosen_of test (arrivals history) ≡ chosen test history
chosen_arrivals test history =
    same_rising (chosen_of test (arrivals history)) (chosen test history) (rising_fold [] (filter test (arrivals history)) tt) (chosen_rising test history)
    (λ one. among_fold one [] (filter test (arrivals history)) ∙ among_filter test one (arrivals history) ∙ ap (λ (b : Bool). test one && b) (among_arrivals one history)
    ∙ sym (chosen_among test history one))
