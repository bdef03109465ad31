-- What the summaries of the parts are finished to.
use Rattle.std.proofs.Common.{◌≡◌, ℕ, suc, List, [], ◌∷◌, ◌++◌, Option, Some, Result, Ok, Err, refl, sym, ap, ◌∙◌, append_assoc, slice_get}
use Rattle.std.proofs.lemmas.Map.Entries.{hash_map_get_place}
use Rattle.std.specs.Map.{keys_of}
use Rattle.indexmap.specs.IndexMap.{IndexMap}
use Rattle.pr_num.specs.declared.value.Num.{Num}
use Rattle.pr_num.specs.declared.value.TooWide.{TooWide}
use Rattle.pr_window.specs.pr_labels.declared.pair.Pair.{Pair}
use Rattle.pr_window.specs.pr_labels.declared.item.Item.{Item}
use Rattle.pr_window.specs.pr_labels.declared.grouping.Grouping.{Grouping}
use Rattle.pr_window.specs.spec_vectors.Vectors.{element, label_sets}
use Rattle.pr_window.specs.spec_vectors.Aggregation.{of_groups, group_answers, behind, group_of, part, prepended, values_of}
use Rattle.pr_agg.specs.private.Chosen.{labels_equiv}
use Rattle.pr_agg.specs.private.Parts.{AreParts, after_items, finished, finished_all, fold_and_finish}

-- one element more before the rest
pub after_one : (items : List (Item Num)) (e : Item Num) (rest : Result (List (Item Num)) TooWide) → after_items items (prepended e rest) ≡ after_items (items ++ e ∷ []) rest
after_one items e (Ok rest) = ap (λ (xs : List (Item Num)). Ok xs) (sym (append_assoc items (e ∷ []) rest))
after_one items e (Err fault) = refl

pub finished_more : (items : List (Item Num)) (k : List Pair) (v : Num) (answer : Result Num TooWide) (rest : Result (List (Item Num)) TooWide) → answer ≡ Ok v
    → after_items items (behind k answer rest) ≡ after_items (items ++ element k v ∷ []) rest
finished_more items k v answer rest h =
    ap (λ (r : Result Num TooWide). after_items items (behind k r rest)) h ∙ after_one items (element k v) rest

pub finished_fault : (items : List (Item Num)) (k : List Pair) (fault : TooWide) (answer : Result Num TooWide) (rest : Result (List (Item Num)) TooWide) → answer ≡ Err fault
    → after_items items (behind k answer rest) ≡ Err fault
finished_fault items k fault answer rest h = ap (λ (r : Result Num TooWide). after_items items (behind k r rest)) h

-- the labels of one more element
pub labels_more : (items : List (Item Num)) (k : List Pair) (v : Num) (rest : List (List Pair)) → label_sets (items ++ element k v ∷ []) ++ rest ≡ label_sets items ++ k ∷ rest
labels_more [] k v rest = refl
labels_more (e ∷ es) k v rest = ap (λ (sets : List (List Pair)). e.labels ∷ sets) (labels_more es k v rest)

module _ {A : Type 0} (f : A → Result Num TooWide) where
  answers_of : (answer : List Pair → Result Num TooWide) (es : List (List Pair × A)) → ((i : ℕ) (e : List Pair × A) → slice_get es i ≡ Some e → f e.1 ≡ answer e.0)
      → finished_all f es ≡ group_answers answer (keys_of es)
  answers_of answer [] h = refl
  answers_of answer (e ∷ es) h = λ j. behind e.0 (h 0 e refl j) (answers_of answer es (λ i x s. h (suc i) x s) j)

  pub parts_answer : {S : Type 0} (lift : Num → A) (combine : A → A → A) (by : Grouping) (vector : List (Item Num)) (m : IndexMap (List Pair) A S) → AreParts lift combine (group_of by) vector m
      → finished_all f m.entries ≡ of_groups (fold_and_finish lift combine f) by vector
  parts_answer lift combine by vector m h =
      answers_of (λ k. fold_and_finish lift combine f (values_of (part by vector k))) m.entries (λ i e s. ap (λ (o : Option A). finished f o) (sym (hash_map_get_place labels_equiv m i e.0 e.1 h.grouped.unique s) ∙ h.grouped.at e.0))
      ∙ ap (λ (ks : List (List Pair)). group_answers (λ k. fold_and_finish lift combine f (values_of (part by vector k))) ks) h.known
