-- One more element among the rows, and what all of them give.
use Rattle.std.proofs.Common.{◌≡◌, Bool, true, false, cond, List, [], ◌∷◌, ◌++◌, Option, Some, None, Ok, Err, sym, ap, ◌∙◌}
use Rattle.std.proofs.lemmas.List.{map-append}
use Rattle.std.proofs.lemmas.List.Sums.{fold-append}
use Rattle.std.specs.Map.{keys_of}
use Rattle.pr_num.specs.declared.value.Num.{Num}
use Rattle.pr_match.specs.pr_labels.declared.pair.Pair.{Pair}
use Rattle.pr_match.specs.pr_labels.declared.item.Item.{Item}
use Rattle.pr_match.specs.pr_labels.Rising.{is_among, with_labels}
use Rattle.pr_match.proofs.LabelsLabelMaps.{keys_insert}
use Rattle.spec_vectors.specs.declared.function_fault.FunctionFault.TheVariants as fault
use Rattle.spec_vectors.specs.Vectors.{element, in_label_order, in_order, label_sets, with_element}
use Rattle.spec_vectors.specs.Functions.{least_twice, told_apart, unless_same}
use Rattle.pr_match.specs.pr_labels.private.Entries.{IsPut, is_known, items_of}
use Rattle.spec_vectors.proofs.Placed.{element_put}
use Rattle.pr_match.proofs.LabelsElements.{known_among}
use Rattle.pr_fn.specs.declared.rows.DistinctElements.{DistinctElements}
use Rattle.pr_fn.specs.private.Rows.{AreRows, least_with}
use Rattle.pr_fn.proofs.Twice.{least_again, least_stays, order_stays}

sets_more : (front : List (Item Num)) (labels : List Pair) (value : Num) → label_sets (front ++ element labels value ∷ []) ≡ label_sets front ++ labels ∷ []
sets_more front labels value = map-append (λ (e : Item Num). e.labels) front (element labels value ∷ [])

among_front : (front : List (Item Num)) (labels : List Pair) (rows : DistinctElements) (b : Bool) → AreRows front rows → is_known labels rows.elements ≡ b → is_among labels (in_label_order (label_sets front)) ≡ b
among_front front labels rows b h e = ap (λ (ks : List (List Pair)). is_among labels ks) (sym h.known) ∙ sym (known_among labels rows.elements) ∙ e

-- with new labels
pub rows_more : (front : List (Item Num)) (labels : List Pair) (value : Num) (rows : DistinctElements) (es : List (List Pair × Num)) → IsPut None labels value rows.elements es → AreRows front rows
    → AreRows (front ++ element labels value ∷ []) (record { elements = es; again = rows.again })
rows_more front labels value rows es put h = record {
  known = ap keys_of put.1 ∙ keys_insert rows.elements labels value ∙ ap (λ (ks : List (List Pair)). with_labels ks labels) h.known
      ∙ sym (fold-append with_labels [] (label_sets front) (labels ∷ [])) ∙ ap in_label_order (sym (sets_more front labels value));
  again = h.again ∙ least_stays (label_sets front) labels (among_front front labels rows false h put.0) ∙ ap least_twice (sym (sets_more front labels value));
  listed = λ none. ap (λ (xs : List (List Pair × Num)). items_of xs) put.1 ∙ element_put rows.elements labels value ∙ ap (λ (xs : List (Item Num)). with_element xs (element labels value)) (h.listed none)
      ∙ sym (fold-append with_element [] front (element labels value ∷ []));
}

some_least : (o : Option (List Pair)) (labels : List Pair) → least_with o labels ≡ None → ⊥
some_least None labels h = cc
some_least (Some least) labels h = by_test _ h where
  by_test : (b : Bool) → cond b (Some labels) (Some least) ≡ None → ⊥
  by_test true e = cc
  by_test false e = cc

-- with labels that came before
pub rows_again : (front : List (Item Num)) (labels : List Pair) (value : Num) (rows : DistinctElements) (es : List (List Pair × Num)) (came : List Pair) (again : Option (List Pair)) → IsPut (Some came) labels value rows.elements es → again ≡ least_with rows.again came → AreRows front rows
    → AreRows (front ++ element labels value ∷ []) (record { elements = es; again = again })
rows_again front labels value rows es came again put least h =
    let among = among_front front labels rows true h put.1.0 in
    let is : again ≡ least_with rows.again labels = least ∙ ap (λ (l : List Pair). least_with rows.again l) put.0 in
    record {
      known = ap keys_of put.1.1 ∙ h.known ∙ order_stays (label_sets front) labels among ∙ ap in_label_order (sym (sets_more front labels value));
      again = is ∙ ap (λ (o : Option (List Pair)). least_with o labels) h.again ∙ least_again (label_sets front) labels among ∙ ap least_twice (sym (sets_more front labels value));
      listed = λ none. absurd (some_least rows.again labels (sym is ∙ none));
    }

pub same_told : (front : List (Item Num)) (rows : DistinctElements) (labels : List Pair) → AreRows front rows → rows.again ≡ Some labels → told_apart front ≡ Err (fault.SameLabels labels)
same_told front rows labels h e = ap (λ (o : Option (List Pair)). unless_same o (in_order front)) (sym h.again ∙ e)

pub all_told : (front : List (Item Num)) (rows : DistinctElements) (items : List (Item Num)) → AreRows front rows → rows.again ≡ None → items ≡ items_of rows.elements → told_apart front ≡ Ok items
all_told front rows items h e is =
    ap (λ (o : Option (List Pair)). unless_same o (in_order front)) (sym h.again ∙ e) ∙ ap (λ (xs : List (Item Num)). Ok xs) (sym (is ∙ h.listed e))
