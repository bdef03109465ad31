-- Groups that are put in order are those of the elements, each once.
use Rattle.std.proofs.Common.{◌≡◌, Bool, true, false, cond, ◌||◌, List, [], ◌∷◌, map, is_some, refl, sym, ap, ◌∙◌}
use Rattle.std.proofs.lemmas.Map.Keys.{IsDistinct-head, IsDistinct-tail}
use Rattle.std.proofs.lemmas.Map.Made.{is_some-lookup}
use Rattle.std.specs.List.{IsDistinct}
use Rattle.std.specs.List.Sorted.{IsSorted}
use Rattle.std.specs.Ordering.{is_eq, is_gt}
use Rattle.std.specs.declared.cmp.Ordering.{Ordering}
use Rattle.std.specs.declared.cmp.Ordering.TheVariants.{Less, Equal, Greater}
use Rattle.indexmap.specs.IndexMap.{IndexMap, IsUnique, get, keys}
use Rattle.pr_num.specs.declared.value.Num.{Num}
use Rattle.pr_window.specs.pr_labels.declared.pair.Pair.{Pair}
use Rattle.pr_window.specs.pr_labels.declared.item.Item.{Item}
use Rattle.pr_window.specs.pr_labels.Order.{labels_cmp, labels_eq, labels_tie}
use Rattle.pr_window.specs.pr_labels.Rising.{IsRising, is_among}
use Rattle.pr_window.proofs.LabelsLabelOrder.{among_fold, labels_total, rising_fold, same_rising}
use Rattle.pr_window.proofs.LabelsSorted.{IsUp, sorted_up}
use Rattle.pr_window.specs.spec_vectors.Vectors.{in_label_order}
use Rattle.pr_window.specs.spec_vectors.Aggregation.{values_of}
use Rattle.pr_window.specs.private.Folding.{folded}
use Rattle.pr_agg.specs.private.Chosen.{labels_equiv}
use Rattle.pr_agg.specs.private.Parts.{AreGrouped, AreParts, part_by}

-- label sets that are in order and distinct rise
below_other : (o : Ordering) → is_gt o ≡ false → is_eq o ≡ false → o ≡ Less
below_other Less g e = refl
below_other Equal g e = cc
below_other Greater g e = cc

rising_from : (sets : List (List Pair)) → IsUp labels_cmp sets → IsDistinct labels_eq sets → IsRising sets
rising_from [] u d = tt
rising_from (x ∷ []) u d = (tt, tt)
rising_from (x ∷ y ∷ more) u d =
    (below_other (labels_cmp x y) u.0.0 (sym (labels_tie x y) ∙ (IsDistinct-head labels_eq x (y ∷ more) d).0), rising_from (y ∷ more) u.1 (IsDistinct-tail labels_eq x (y ∷ more) d))

module _ {A : Type 0} (lift : Num → A) (combine : A → A → A) (key : Item Num → List Pair) where
  -- a part has values exactly where an element goes by its key
  has_part : (vector : List (Item Num)) (q : List Pair) → is_some (folded lift combine (values_of (part_by key vector q))) ≡ is_among q (map key vector)
  has_part [] q = refl
  has_part (x ∷ xs) q = by_test (labels_eq (key x) q) (labels_eq q (key x)) (labels_equiv.symm (key x) q) (has_part xs q) where
    by_test : (b c : Bool) → b ≡ c → is_some (folded lift combine (values_of (part_by key xs q))) ≡ is_among q (map key xs)
        → is_some (folded lift combine (values_of (cond b (x ∷ part_by key xs q) (part_by key xs q)))) ≡ (c || is_among q (map key xs))
    by_test true true e h = refl
    by_test true false e h = cc
    by_test false true e h = cc
    by_test false false e h = h

  pub parts_in_order : {S : Type 0} (vector : List (Item Num)) (m n : IndexMap (List Pair) A S) → AreGrouped lift combine key vector m
      → ((q : List Pair) → get labels_eq n q ≡ get labels_eq m q) → IsUnique labels_eq n → IsSorted labels_cmp (keys n) → AreParts lift combine key vector n
  parts_in_order vector m n h same unique sorted = record {
    known = same_rising (keys n) (in_label_order (map key vector)) (rising_from (keys n) (sorted_up labels_cmp labels_total (keys n) sorted) unique) (rising_fold [] (map key vector) tt) among;
    grouped = record { unique = unique; at = λ q. same q ∙ h.at q };
  } where
    among : (one : List Pair) → is_among one (keys n) ≡ is_among one (in_label_order (map key vector))
    among one =
        sym (is_some-lookup (labels_eq one) n.entries) ∙ ap is_some (same one ∙ h.at one) ∙ has_part vector one ∙ sym (among_fold one [] (map key vector))
