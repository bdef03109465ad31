-- Counts by the fold are the numbers of the elements.
use Rattle.std.proofs.Common.{◌≡◌, ℕ, suc, ◌+◌, ◌<◌, ◌≤◌, ◌^◌, List, [], ◌∷◌, length, map, fold, pos, Option, Some, None, refl, sym, ap, ◌∙◌, arith, slice_get}
use Rattle.std.proofs.lemmas.List.Sums.{length-filter}
use Rattle.std.proofs.lemmas.Map.Entries.{hash_map_get_place}
use Rattle.std.specs.Map.{keys_of}
use Rattle.std.specs.Option.{IfSome, unwrap_or}
use Rattle.indexmap.specs.IndexMap.{IndexMap}
use Rattle.pr_num.specs.declared.value.Num.{Num}
use Rattle.pr_num.specs.Arithmetic.{whole_of}
use Rattle.pr_window.specs.pr_labels.declared.pair.Pair.{Pair}
use Rattle.pr_window.specs.pr_labels.declared.item.Item.{Item}
use Rattle.pr_window.specs.pr_labels.declared.grouping.Grouping.{Grouping}
use Rattle.pr_window.specs.pr_labels.Order.{labels_eq}
use Rattle.pr_window.specs.spec_vectors.Vectors.{element}
use Rattle.pr_window.specs.spec_vectors.Aggregation.{counted, value_count, value_group, values_of}
use Rattle.pr_window.specs.private.Folding.{and_item, folded, with_next}
use Rattle.pr_agg.specs.private.Chosen.{labels_equiv}
use Rattle.pr_agg.specs.private.Counts.{both_parts, numbered, numbered_all, one_each}
use Rattle.pr_agg.proofs.Folded.{fold_count}
use Rattle.pr_agg.specs.private.Parts.{AreParts, part_by}

-- one more is counted, and there is room for it
pub counted_next : (o : Option ℕ) (v : Num) → unwrap_or o 0 + 1 ≡ with_next one_each both_parts o v
counted_next None v = refl
counted_next (Some n) v = refl

pub count_light : (o : Option ℕ) (n m : ℕ) → n ≤ m → m + 1 < 2 ^ 64 → IfSome o (λ a. a ≤ n) → unwrap_or o 0 + 1 < 2 ^ 64
count_light None n m le small h = omega arith
count_light (Some a) n m le small h = omega arith

folded_count : (xs : List Num) (n : ℕ) → Some n ≡ folded one_each both_parts xs → n ≡ length xs
folded_count [] n h = cc
folded_count (x ∷ xs) n h = let same : n ≡ fold (and_item one_each both_parts) 1 xs = cc in omega (arith, same, fold_count 1 xs)

length_of_values : (xs : List (Item Num)) → length (values_of xs) ≡ length xs
length_of_values [] = refl
length_of_values (x ∷ xs) = ap (λ (n : ℕ). suc n) (length_of_values xs)

numbers : (f : List Pair → Item Num) (es : List (List Pair × ℕ)) → ((i : ℕ) (e : List Pair × ℕ) → slice_get es i ≡ Some e → numbered e ≡ f e.0) → numbered_all es ≡ map f (keys_of es)
numbers f [] h = refl
numbers f (e ∷ es) h = λ j. h 0 e refl j ∷ numbers f es (λ i x s. h (suc i) x s) j

pub counts_are : {S : Type 0} (label : List ℕ) (by : Grouping) (vector : List (Item Num)) (m : IndexMap (List Pair) ℕ S) → AreParts one_each both_parts (value_group label by) vector m
    → numbered_all m.entries ≡ counted label by vector
counts_are label by vector m h =
    numbers (λ group. element group (value_count label by vector group)) m.entries each
    ∙ ap (map (λ group. element group (value_count label by vector group))) h.known
  where
    each : (i : ℕ) (e : List Pair × ℕ) → slice_get m.entries i ≡ Some e → numbered e ≡ element e.0 (value_count label by vector e.0)
    each i e s =
        ap (λ (n : ℕ). element e.0 (whole_of (pos n)))
        (folded_count (values_of (part_by (value_group label by) vector e.0)) e.1 (sym (hash_map_get_place labels_equiv m i e.0 e.1 h.grouped.unique s) ∙ h.grouped.at e.0)
        ∙ length_of_values (part_by (value_group label by) vector e.0) ∙ length-filter (λ (x : Item Num). labels_eq (value_group label by x) e.0) vector)
