-- What is known of entries after a put.
use Rattle.std.proofs.Common.{◌≡◌, Bool, true, false, ◌||◌, List, refl, sym, ap, ◌∙◌}
use Rattle.std.proofs.lemmas.Map.Made.{is_some-lookup}
use Rattle.std.specs.List.{list_any}
use Rattle.std.specs.Map.{keys_of}
use Rattle.std.specs.BTreeMap.{insert_entry, is_at}
use Rattle.pr_labels.specs.declared.pair.Pair.{Pair}
use Rattle.pr_labels.specs.Order.{labels_cmp, labels_eq}
use Rattle.pr_labels.specs.Rising.{is_among}
use Rattle.pr_labels.proofs.LabelOrder.{among_with, labels_decide}
use Rattle.pr_labels.proofs.LabelMaps.{keys_insert, tie}
use Rattle.pr_labels.specs.private.Entries.{is_known}

-- equality may be turned
pub equal_turned : (a b : List Pair) → labels_eq a b ≡ labels_eq b a
equal_turned a b = by_tests (labels_eq a b) (labels_eq b a) refl refl where
  by_tests : (x y : Bool) → labels_eq a b ≡ x → labels_eq b a ≡ y → x ≡ y
  by_tests true true p q = refl
  by_tests false false p q = refl
  by_tests true false p q = let back : labels_eq b a ≡ true = (labels_decide b a).1 (sym ((labels_decide a b).0 p)) in cc
  by_tests false true p q = let back : labels_eq a b ≡ true = (labels_decide a b).1 (sym ((labels_decide b a).0 q)) in cc

-- what is known is among the keys
pub known_among : {X : Type 0} (labels : List Pair) (es : List (List Pair × X)) → is_known labels es ≡ is_among labels (keys_of es)
known_among labels es = is_some-lookup (is_at (labels_cmp labels)) es ∙ (λ i. list_any (λ q. tie labels q i) (keys_of es))

pub known_put : {X : Type 0} (q : List Pair) (es : List (List Pair × X)) (k : List Pair) (v : X) → is_known q (insert_entry labels_cmp es k v) ≡ (labels_eq k q || is_known q es)
known_put q es k v =
    known_among q (insert_entry labels_cmp es k v) ∙ ap (λ (ks : List (List Pair)). is_among q ks) (keys_insert es k v) ∙ among_with q k (keys_of es)
    ∙ (λ i. equal_turned q k i || sym (known_among q es) i)
