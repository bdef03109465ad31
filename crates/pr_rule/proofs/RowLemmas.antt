-- One more element among the rows, and what all of them give.
use Rattle.std.proofs.Common.{◌≡◌, Bool, true, false, cond, List, [], ◌∷◌, ◌++◌, map, Option, Some, None, refl, sym, ap, ◌∙◌, subst}
use Rattle.std.proofs.lemmas.List.{map-append}
use Rattle.std.proofs.lemmas.List.Sums.{fold-append}
use Rattle.std.specs.Map.{keys_of}
use Rattle.std.specs.Ordering.{match_ordering}
use Rattle.std.specs.BTreeMap.{insert_entry}
use Rattle.std.specs.declared.cmp.Ordering.{Ordering}
use Rattle.std.specs.declared.cmp.Ordering.TheVariants.{Less, Equal, Greater}
use Rattle.pr_labels.specs.declared.item.Item.{Item}
use Rattle.pr_labels.specs.declared.pair.Pair.{Pair}
use Rattle.pr_labels.specs.Order.{labels_cmp}
use Rattle.pr_labels.specs.Rising.{IsRising, is_among, with_labels}
use Rattle.pr_labels.proofs.LabelMaps.{keys_insert}
use Rattle.pr_labels.proofs.LabelOrder.{tied}
use Rattle.pr_eval.specs.spec_vectors.Vectors.{in_label_order}
use Rattle.pr_eval.specs.spec_vectors.Functions.{least_twice}
use Rattle.spec_rules.specs.spec_alerts.declared.found.RuleElement.{RuleElement}
use Rattle.spec_rules.specs.private.Laws.{FoundsRise}
use Rattle.spec_rules.specs.Results.{found_placed, in_found_order, sets_in, with_found}
use Rattle.pr_labels.specs.private.Entries.{IsPut, entry_item, is_known, items_of, label_sets_of}
use Rattle.pr_labels.proofs.Elements.{known_among}
use Rattle.pr_eval.specs.pr_fn.private.Rows.{least_with}
use Rattle.pr_eval.proofs.FnTwice.{least_again, least_stays, order_stays}
use Rattle.pr_rule.specs.declared.rule_result.rows.ElementRest.{ElementRest}
use Rattle.pr_rule.specs.declared.rule_result.rows.DistinctElements.{DistinctElements}
use Rattle.pr_rule.specs.private.Rows.{AreRows, found_in}

-- the elements of entries
abbrev founds_of : List (List Pair × ElementRest) → List RuleElement
founds_of es = map found_in (items_of es)

abbrev found_at : List Pair → ElementRest → RuleElement
found_at labels row = record { labels = labels; notes = row.notes; value = row.value }

-- an element put among those in order
element_placed : (o : Ordering) (k : List Pair) (v : ElementRest) (e : List Pair × ElementRest) (es rest : List (List Pair × ElementRest)) → labels_cmp k e.0 ≡ o
    → founds_of rest ≡ with_found (founds_of es) (found_at k v)
    → founds_of (match_ordering o ((k, v) ∷ e ∷ es) ((e.0, v) ∷ es) (e ∷ rest))
    ≡ found_placed o (found_at k v) (found_in (entry_item e)) (founds_of es) (with_found (founds_of es) (found_at k v))
element_placed Less k v e es rest is h = refl
element_placed Equal k v e es rest is h = ap (λ (l : List Pair). found_at l v ∷ founds_of es) (sym (tied k e.0 is))
element_placed Greater k v e es rest is h = ap (λ (fs : List RuleElement). found_in (entry_item e) ∷ fs) h

element_put : (es : List (List Pair × ElementRest)) (k : List Pair) (v : ElementRest) → founds_of (insert_entry labels_cmp es k v) ≡ with_found (founds_of es) (found_at k v)
element_put [] k v = refl
element_put (e ∷ es) k v = element_placed (labels_cmp k e.0) k v e es (insert_entry labels_cmp es k v) refl (element_put es k v)

sets_more : (front : List RuleElement) (f : RuleElement) → sets_in (front ++ f ∷ []) ≡ sets_in front ++ f.labels ∷ []
sets_more front f = map-append (λ (f : RuleElement). f.labels) front (f ∷ [])

among_front : (front : List RuleElement) (labels : List Pair) (rows : DistinctElements) (b : Bool) → AreRows front rows → is_known labels rows.founds ≡ b → is_among labels (in_label_order (sets_in front)) ≡ b
among_front front labels rows b h e = ap (λ (ks : List (List Pair)). is_among labels ks) (sym h.known) ∙ sym (known_among labels rows.founds) ∙ e

-- with new labels
pub rows_more : (front : List RuleElement) (f : RuleElement) (row : ElementRest) (rows : DistinctElements) (es : List (List Pair × ElementRest)) → f ≡ found_at f.labels row → IsPut None f.labels row rows.founds es → AreRows front rows
    → AreRows (front ++ f ∷ []) (record { founds = es; again = rows.again })
rows_more front f row rows es is put h = record {
  known = ap keys_of put.1 ∙ keys_insert rows.founds f.labels row ∙ ap (λ (ks : List (List Pair)). with_labels ks f.labels) h.known
      ∙ sym (fold-append with_labels [] (sets_in front) (f.labels ∷ [])) ∙ ap in_label_order (sym (sets_more front f));
  again = h.again ∙ least_stays (sets_in front) f.labels (among_front front f.labels rows false h put.0) ∙ ap least_twice (sym (sets_more front f));
  listed = λ none. ap founds_of put.1 ∙ element_put rows.founds f.labels row ∙ ap (λ (fs : List RuleElement). with_found fs (found_at f.labels row)) (h.listed none)
      ∙ ap (λ (g : RuleElement). with_found (in_found_order front) g) (sym is) ∙ sym (fold-append with_found [] front (f ∷ []));
}

some_least : (o : Option (List Pair)) (labels : List Pair) → least_with o labels ≡ None → ⊥
some_least None labels h = cc
some_least (Some least) labels h = by_test _ h where
  by_test : (b : Bool) → cond b (Some labels) (Some least) ≡ None → ⊥
  by_test true e = cc
  by_test false e = cc

-- with labels that came before
pub rows_again : (front : List RuleElement) (f : RuleElement) (row : ElementRest) (rows : DistinctElements) (es : List (List Pair × ElementRest)) (came : List Pair) (again : Option (List Pair)) → IsPut (Some came) f.labels row rows.founds es
    → again ≡ least_with rows.again came → AreRows front rows → AreRows (front ++ f ∷ []) (record { founds = es; again = again })
rows_again front f row rows es came again put least h =
    let among = among_front front f.labels rows true h put.1.0 in
    let is : again ≡ least_with rows.again f.labels = least ∙ ap (λ (l : List Pair). least_with rows.again l) put.0 in
    record {
      known = ap keys_of put.1.1 ∙ h.known ∙ order_stays (sets_in front) f.labels among ∙ ap in_label_order (sym (sets_more front f));
      again = is ∙ ap (λ (o : Option (List Pair)). least_with o f.labels) h.again ∙ least_again (sets_in front) f.labels among ∙ ap least_twice (sym (sets_more front f));
      listed = λ none. absurd (some_least rows.again f.labels (sym is ∙ none));
    }

-- what is in label order stays so
sets_kept : (items : List (Item ElementRest)) → sets_in (map found_in items) ≡ label_sets_of items
sets_kept [] = refl
sets_kept (i ∷ items) = ap (λ (ls : List (List Pair)). i.labels ∷ ls) (sets_kept items)

pub all_rise : (items : List (Item ElementRest)) (founds : List RuleElement) → IsRising (label_sets_of items) → founds ≡ map found_in items → FoundsRise founds
all_rise items founds h made = subst IsRising (sym (ap sets_in made ∙ sets_kept items)) h
