-- What the gathered values give.
use Rattle.std.proofs.Common.{◌≡◌, ℕ, suc, List, [], ◌∷◌, ◌++◌, fold, Some, Ok, refl, sym, ap, ◌∙◌, slice_get, append_assoc, append-nil}
use Rattle.std.proofs.lemmas.Map.Entries.{hash_map_get_place}
use Rattle.std.specs.Map.{keys_of}
use Rattle.indexmap.specs.IndexMap.{IndexMap}
use Rattle.pr_num.specs.declared.value.Num.{Num}
use Rattle.pr_num.specs.Order.{order_of}
use Rattle.pr_num.specs.Quantile.{quantile_of}
use Rattle.pr_window.specs.pr_labels.declared.pair.Pair.{Pair}
use Rattle.pr_window.specs.pr_labels.declared.item.Item.{Item}
use Rattle.pr_window.specs.pr_labels.declared.grouping.Grouping.{Grouping}
use Rattle.pr_window.specs.spec_vectors.Vectors.{element}
use Rattle.pr_window.specs.spec_vectors.Aggregation.{of_groups, always, group_answers, group_of, in_value_order, part, prepended, quantile_of_values, values_of}
use Rattle.pr_window.specs.private.Folding.{and_item, folded}
use Rattle.pr_agg.specs.private.Chosen.{labels_equiv}
use Rattle.pr_agg.specs.private.Lists.{alone, one_after_other, quantiles_in}
use Rattle.pr_agg.specs.private.Parts.{AreParts}

fold_lists : (acc xs : List Num) → fold (and_item alone one_after_other) acc xs ≡ acc ++ xs
fold_lists acc [] = sym (append-nil acc)
fold_lists acc (x ∷ xs) = fold_lists (acc ++ x ∷ []) xs ∙ append_assoc acc (x ∷ []) xs

folded_lists : (xs ys : List Num) → Some ys ≡ folded alone one_after_other xs → xs ≡ ys
folded_lists [] ys h = cc
folded_lists (x ∷ xs) ys h = let same : ys ≡ fold (and_item alone one_after_other) (x ∷ []) xs = cc in sym (same ∙ fold_lists (x ∷ []) xs)

module _ (phi : Num) (values : List Pair → List Num) where
  answers_ok : (es : List (List Pair × List Num)) → ((i : ℕ) (e : List Pair × List Num) → slice_get es i ≡ Some e → values e.0 ≡ e.1)
      → group_answers (λ k. always (quantile_of_values phi) (values k)) (keys_of es) ≡ Ok (quantiles_in phi es)
  answers_ok [] h = refl
  answers_ok (e ∷ es) h = λ j. prepended (element e.0 (quantile_of phi (in_value_order order_of (h 0 e refl j)))) (answers_ok es (λ i x s. h (suc i) x s) j)

pub quantiles_are : {S : Type 0} (phi : Num) (by : Grouping) (vector : List (Item Num)) (m : IndexMap (List Pair) (List Num) S) → AreParts alone one_after_other (group_of by) vector m
    → of_groups (always (quantile_of_values phi)) by vector ≡ Ok (quantiles_in phi m.entries)
quantiles_are phi by vector m h =
    ap (group_answers (λ k. always (quantile_of_values phi) (values_of (part by vector k)))) (sym h.known)
    ∙ answers_ok phi (λ k. values_of (part by vector k)) m.entries (λ i e s. folded_lists (values_of (part by vector e.0)) e.1 (sym (hash_map_get_place labels_equiv m i e.0 e.1 h.grouped.unique s) ∙ h.grouped.at e.0))
