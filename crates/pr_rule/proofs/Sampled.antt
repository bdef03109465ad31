-- An entry that is put into an ordered map is an element that is put among those in label order.
use Rattle.std.specs.Prelude.{◌≡◌, List, [], ◌∷◌, fold, map, Result, Ok, Err, IfOk}
use Rattle.std.specs.BTreeMap.{insert_entry}
use Rattle.std.specs.Ordering.{match_ordering}
use Rattle.std.specs.declared.cmp.Ordering.{Ordering}
use Rattle.std.specs.declared.cmp.Ordering.TheVariants.{Less, Equal, Greater}
use Rattle.std.proofs.Common.{refl, sym, ap, subst}
use Rattle.pr_ast.specs.pr_num.declared.value.Num.{Num}
use Rattle.pr_labels.specs.declared.item.Item.{Item}
use Rattle.pr_labels.specs.declared.pair.Pair.{Pair}
use Rattle.pr_labels.specs.Order.{labels_cmp}
use Rattle.pr_labels.specs.Rising.{IsRising, placed, with_labels}
use Rattle.pr_labels.proofs.LabelOrder.{rising_with}
use Rattle.spec_rules.specs.spec_history.Series.{element}
use Rattle.spec_rules.specs.spec_alerts.declared.record.Record.{Record}
use Rattle.spec_rules.specs.spec_alerts.Records.{placed_item, samples, samples_of, with_item, with_samples}
use Rattle.pr_rule.specs.private.Sampling.{items_of}

entry_placed : (o : Ordering) (k : List Pair) (v : Num) (e : List Pair × Num) (es : List (List Pair × Num))
    → items_of (insert_entry labels_cmp es k v) ≡ with_item (items_of es) (element k v)
    → items_of (match_ordering o ((k, v) ∷ e ∷ es) ((e.0, v) ∷ es) (e ∷ insert_entry labels_cmp es k v))
    ≡ placed_item o (element k v) (element e.0 e.1) (items_of es) (with_item (items_of es) (element k v))
entry_placed Less k v e es h = refl
entry_placed Equal k v e es h = refl
entry_placed Greater k v e es h = ap (λ (l : List (Item Num)). element e.0 e.1 ∷ l) h

pub items_insert : (es : List (List Pair × Num)) (k : List Pair) (v : Num) → items_of (insert_entry labels_cmp es k v) ≡ with_item (items_of es) (element k v)
items_insert [] k v = refl
items_insert (e ∷ es) k v = entry_placed (labels_cmp k e.0) k v e es (items_insert es k v)

-- elements in label order stay so when one is put among them

abbrev sets : List (Item Num) → List (List Pair)
sets is = map (λ (i : Item Num). i.labels) is

sets_placed : (o : Ordering) (i first : Item Num) (rest more : List (Item Num)) (mores : List (List Pair)) → sets more ≡ mores
    → sets (placed_item o i first rest more) ≡ placed o i.labels first.labels (sets rest) mores
sets_placed Less i first rest more mores h = refl
sets_placed Equal i first rest more mores h = refl
sets_placed Greater i first rest more mores h = ap (λ (l : List (List Pair)). first.labels ∷ l) h

sets_with : (is : List (Item Num)) (i : Item Num) → sets (with_item is i) ≡ with_labels (sets is) i.labels
sets_with [] i = refl
sets_with (first ∷ rest) i =
    sets_placed (labels_cmp i.labels first.labels) i first rest (with_item rest i) (with_labels (sets rest) i.labels) (sets_with rest i)

rising_item : (is : List (Item Num)) (i : Item Num) → IsRising (sets is) → IsRising (sets (with_item is i))
rising_item is i h = subst IsRising (sym (sets_with is i)) (rising_with i.labels (sets is) h)

rising_items : (is more : List (Item Num)) → IsRising (sets is) → IsRising (sets (fold with_item is more))
rising_items is [] h = h
rising_items is (i ∷ more) h = rising_items (with_item is i) more (rising_item is i h)

rising_all : (is : List (Item Num)) (rs : List Record) → IsRising (sets is) → IsRising (sets (fold with_samples is rs))
rising_all is [] h = h
rising_all is (r ∷ rs) h = rising_all (with_samples is r) rs (rising_items is (samples_of r) h)

samples_rising : (rs : List Record) → IsRising (map (λ i. i.labels) (samples rs))
samples_rising rs = rising_all [] rs tt

pub in_order_if : {X E : Type 0} (items : X → List (Item Num)) (r : Result X E) (rs : List Record)
    → IfOk r (λ v. items v ≡ samples rs) → IfOk r (λ v. IsRising (map (λ i. i.labels) (items v)))
in_order_if items (Ok v) rs h = subst (λ is. IsRising (sets is)) (sym h) (samples_rising rs)
in_order_if items (Err e) rs h = tt
