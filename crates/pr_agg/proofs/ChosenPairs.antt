-- Pairs at places are compared, hashed and chosen as a label set is.
use Rattle.std.proofs.Common.{◌≡◌, ℕ, Bool, true, false, not, ◌&&◌, cond, List, [], ◌∷◌, ◌++◌, flat_map, filter, refl, sym, ap, ◌∙◌}
use Rattle.std.proofs.lemmas.List.{length-map}
use Rattle.std.specs.Borrow.{Bor}
use Rattle.std.specs.Hash as fed
use Rattle.std.specs.Cmp.Lexicographic.{pointwise}
use Rattle.pr_labels.specs.declared.pair.Pair.{Pair}
use Rattle.pr_labels.specs.Edits.{is_listed, key_labels}
use Rattle.pr_labels.specs.LabelSet.{has_name, metric_label}
use Rattle.pr_labels.specs.Order.{labels_eq, pair_eq, pair_input}
use Rattle.pr_agg.specs.private.Chosen.{is_in_key, pairs_at}

pub same_places : (xs ys : List (Bor Pair)) → pointwise (λ (a b : Bor Pair). pair_eq a.now b.now) xs ys ≡ labels_eq (pairs_at xs) (pairs_at ys)
same_places [] [] = refl
same_places [] (y ∷ ys) = refl
same_places (x ∷ xs) [] = refl
same_places (x ∷ xs) (y ∷ ys) = ap (λ (b : Bool). pair_eq x.now y.now && b) (same_places xs ys)

pairs_fed : (xs : List (Bor Pair)) → flat_map (λ (b : Bor Pair). pair_input b.now) xs ≡ flat_map pair_input (pairs_at xs)
pairs_fed [] = refl
pairs_fed (x ∷ xs) = ap (λ (more : List (List ℕ)). pair_input x.now ++ more) (pairs_fed xs)

pub fed_places : (xs : List (Bor Pair)) (pairs : List Pair) → pairs ≡ pairs_at xs → fed.slice (λ (b : Bor Pair). pair_input b.now) xs ≡ fed.slice pair_input pairs
fed_places xs pairs e =
    (λ i. fed.usize (sym (length-map xs (λ (b : Bor Pair). b.now)) i) ++ pairs_fed xs i)
    ∙ ap (fed.slice pair_input) (sym e)

-- those that pass one test and then another pass both
both_pass : (p q : Pair → Bool) (xs : List Pair) → filter (λ (x : Pair). q x && p x) xs ≡ filter p (filter q xs)
both_pass p q [] = refl
both_pass p q (x ∷ xs) = by_test (q x) refl (both_pass p q xs) where
  by_test : (b : Bool) → q x ≡ b → filter (λ (y : Pair). q y && p y) xs ≡ filter p (filter q xs)
      → cond (b && p x) (x ∷ filter (λ (y : Pair). q y && p y) xs) (filter (λ (y : Pair). q y && p y) xs) ≡ filter p (cond b (x ∷ filter q xs) (filter q xs))
  by_test true e h = ap (λ (rest : List Pair). cond (p x) (x ∷ rest) rest) h
  by_test false e h = h

-- the pairs that a key has are the key
pub key_is : (on : Bool) (labels : List Pair) (names : List (List ℕ)) → filter (is_in_key on names) labels ≡ key_labels on labels names
unfolding is_in_key
key_is true labels names = refl
key_is false labels names = both_pass (λ (p : Pair). not (has_name metric_label p)) (λ (p : Pair). not (is_listed names p)) labels

-- one more place
pub one_place_more : (done : List Pair) (places : List (Bor Pair)) (b : Bor Pair) → pairs_at places ≡ done → pairs_at (places ++ b ∷ []) ≡ done ++ b.now ∷ []
one_place_more done places b h = placed places ∙ ap (λ (l : List Pair). l ++ b.now ∷ []) h where
  placed : (xs : List (Bor Pair)) → pairs_at (xs ++ b ∷ []) ≡ pairs_at xs ++ b.now ∷ []
  placed [] = refl
  placed (x ∷ xs) = ap (λ (l : List Pair). x.now ∷ l) (placed xs)
