-- One more key among entries.
use Rattle.std.proofs.Common.{◌≡◌, Bool, true, false, cond, ◌||◌, List, [], ◌∷◌, ◌++◌, Option, Some, None, is_some, refl, sym, ap, ◌∙◌}
use Rattle.std.proofs.lemmas.List.Folds.{list_any-append}
use Rattle.std.specs.List.{list_any}
use Rattle.std.specs.BTreeMap.{insert_entry}
use Rattle.indexmap.specs.IndexMap.{IndexMap, Updates, get}
use Rattle.spec_vectors.specs.pr_num.declared.value.Num.{Num}
use Rattle.spec_vectors.specs.pr_labels.declared.pair.Pair.{Pair}
use Rattle.spec_vectors.specs.pr_labels.declared.item.Item.{Item}
use Rattle.spec_vectors.specs.pr_labels.declared.matching.Matching.{Matching}
use Rattle.spec_vectors.specs.pr_labels.Order.{labels_cmp, labels_eq}
use Rattle.spec_vectors.specs.pr_labels.private.Entries.{is_known}
use Rattle.spec_vectors.proofs.LabelsElements.{known_put}
use Rattle.spec_vectors.specs.Matching.{has_key, key_of}
use Rattle.pr_join.specs.private.Keys.{HasKeys}
use Rattle.pr_join.specs.private.Sets.{AreKeysOf}

turned : (a b : Bool) → (a || b) ≡ (b || (a || false))
turned true true = refl
turned true false = refl
turned false true = refl
turned false false = refl

pub none_from : {V : Type 0} (o : Option V) → is_some o ≡ false → o ≡ None
none_from None h = refl
none_from (Some v) h = cc

pub keys_more : {X W : Type 0} (f : X → List Pair) (xs : List X) (x : X) (es more : List (List Pair × W)) (v : W)
    → more ≡ insert_entry labels_cmp es (f x) v → HasKeys f xs es → HasKeys f (xs ++ x ∷ []) more
keys_more {W} f xs x es more v e h q =
    ap (λ (m : List (List Pair × W)). is_known q m) e ∙ known_put q es (f x) v
    ∙ ap (λ (b : Bool). labels_eq (f x) q || b) (h q)
    ∙ turned (labels_eq (f x) q) (list_any (λ y. labels_eq (f y) q) xs)
    ∙ sym (list_any-append (λ y. labels_eq (f y) q) xs (x ∷ []))

-- one more key among those of a side
pub keys_taken : {S : Type 0} (how : Matching) (front : List (Item Num)) (x : Item Num) (m n : IndexMap (List Pair) (Unit {0}) S) (key : List Pair)
    → key ≡ key_of how x → Updates labels_eq m n key (Some tt) → AreKeysOf how front m → AreKeysOf how (front ++ x ∷ []) n
keys_taken how front x m n key is u h = record {
  has = λ q. ap (λ (o : Option (Unit {0})). is_some o) (u.0 q) ∙ by_test (labels_eq key q) (get labels_eq m q)
      ∙ (λ i. labels_eq (is i) q || h.has q i)
      ∙ turned (labels_eq (key_of how x) q) (list_any (has_key how q) front)
      ∙ sym (list_any-append (has_key how q) front (x ∷ []));
} where
  by_test : (b : Bool) (o : Option (Unit {0})) → is_some (cond b (Some tt) o) ≡ (b || is_some o)
  by_test true o = refl
  by_test false o = refl
