-- The order of keys is label order, where no text has the byte by which texts end in a key.
use Rattle.std.proofs.Common.{◌≡◌, ◌≢◌, ℕ, Bool, true, false, not, ◌&&◌, ◌||◌, ◌==◌, List, [], ◌∷◌, ◌++◌, drop, refl, sym, ap, ◌∙◌, append_assoc, arith}
use Rattle.std.proofs.lemmas.Bool.Decides.{nat_tests}
use Rattle.std.specs.List.{flat_map, list_all, list_any}
use Rattle.std.specs.Str.{bytes_eq}
use Rattle.std.specs.Cmp.Lexicographic.{slice_cmp, texts_ties}
use Rattle.std.specs.declared.cmp.Ordering.{Ordering}
use Rattle.std.specs.declared.cmp.Ordering.TheVariants.{Less, Equal, Greater}
use Rattle.std.specs.Ordering.{nat_cmp, is_eq, ordering_then, eq_by_cmp}
use Rattle.pr_labels.specs.declared.pair.Pair.{Pair}
use Rattle.pr_labels.specs.Order.{labels_cmp, labels_eq, labels_tie, pair_cmp}
use Rattle.pr_labels.specs.private.OrderKey.{HasOrderKeys, IsOrderKey, has_texts_without_end, is_without_end, key_end, key_part, order_key}
use Rattle.pr_labels.proofs.LabelOrder.{both}

then_assoc : (a b c : Ordering) → ordering_then a (ordering_then b c) ≡ ordering_then (ordering_then a b) c
then_assoc Less b c = refl
then_assoc Equal b c = refl
then_assoc Greater b c = refl

-- the first byte of a text without the byte of ends, and the others
no_end : (a b : Bool) → not (a || b) ≡ true → (a ≡ false) × (not b ≡ true)
no_end false b h = (refl, h)
no_end true b h = cc

-- the byte of ends is below each other one
end_below : (b : ℕ) → (b == 0) ≡ false → nat_cmp 0 b ≡ Less
end_below b h = grind (arith, nat_tests)

end_above : (b : ℕ) → (b == 0) ≡ false → nat_cmp b 0 ≡ Greater
end_above b h = grind (arith, nat_tests)

-- texts with their ends compare as the texts, and where these are one as what is behind them
texts_compared : (x y r s : List ℕ) → is_without_end x ≡ true → is_without_end y ≡ true
    → slice_cmp nat_cmp (x ++ key_end ∷ r) (y ++ key_end ∷ s) ≡ ordering_then (slice_cmp nat_cmp x y) (slice_cmp nat_cmp r s)
texts_compared [] [] r s f g = refl
texts_compared [] (b ∷ y) r s f g = ap (λ o. ordering_then o (slice_cmp nat_cmp r (y ++ key_end ∷ s))) (end_below b (no_end _ _ g).0)
texts_compared (a ∷ x) [] r s f g = ap (λ o. ordering_then o (slice_cmp nat_cmp (x ++ key_end ∷ r) s)) (end_above a (no_end _ _ f).0)
texts_compared (a ∷ x) (b ∷ y) r s f g =
    ap (λ o. ordering_then (nat_cmp a b) o) (texts_compared x y r s (no_end _ _ f).1 (no_end _ _ g).1)
    ∙ then_assoc (nat_cmp a b) (slice_cmp nat_cmp x y) (slice_cmp nat_cmp r s)

-- the part of a pair with what is behind it
part_before : (p : Pair) (more : List ℕ) → key_part p ++ more ≡ p.name ++ key_end ∷ (p.value ++ key_end ∷ more)
part_before p more = append_assoc (p.name ++ key_end ∷ p.value) (key_end ∷ []) more ∙ append_assoc p.name (key_end ∷ p.value) (key_end ∷ more)

nothing_below : (name more : List ℕ) → slice_cmp nat_cmp [] (name ++ key_end ∷ more) ≡ Less
nothing_below [] more = refl
nothing_below (c ∷ name) more = refl

nothing_above : (name more : List ℕ) → slice_cmp nat_cmp (name ++ key_end ∷ more) [] ≡ Greater
nothing_above [] more = refl
nothing_above (c ∷ name) more = refl

pairs_compared : (p q : Pair) (r s : List ℕ) → has_texts_without_end p ≡ true → has_texts_without_end q ≡ true
    → slice_cmp nat_cmp (key_part p ++ r) (key_part q ++ s) ≡ ordering_then (pair_cmp p q) (slice_cmp nat_cmp r s)
pairs_compared p q r s f g =
    let one = both (is_without_end p.name) (is_without_end p.value) f in
    let other = both (is_without_end q.name) (is_without_end q.value) g in
    (λ i. slice_cmp nat_cmp (part_before p r i) (part_before q s i))
    ∙ texts_compared p.name q.name (p.value ++ key_end ∷ r) (q.value ++ key_end ∷ s) one.0 other.0
    ∙ ap (λ o. ordering_then (slice_cmp nat_cmp p.name q.name) o) (texts_compared p.value q.value r s one.1 other.1)
    ∙ then_assoc (slice_cmp nat_cmp p.name q.name) (slice_cmp nat_cmp p.value q.value) (slice_cmp nat_cmp r s)

keys_compared : (xs ys : List Pair) → list_all has_texts_without_end xs ≡ true → list_all has_texts_without_end ys ≡ true
    → slice_cmp nat_cmp (order_key xs) (order_key ys) ≡ labels_cmp xs ys
keys_compared [] [] f g = refl
keys_compared [] (q ∷ ys) f g = ap (slice_cmp nat_cmp []) (part_before q (order_key ys)) ∙ nothing_below q.name _
keys_compared (p ∷ xs) [] f g = ap (λ k. slice_cmp nat_cmp k []) (part_before p (order_key xs)) ∙ nothing_above p.name _
keys_compared (p ∷ xs) (q ∷ ys) f g =
    let one = both (has_texts_without_end p) (list_all has_texts_without_end xs) f in
    let other = both (has_texts_without_end q) (list_all has_texts_without_end ys) g in
    pairs_compared p q (order_key xs) (order_key ys) one.0 other.0
    ∙ ap (λ o. ordering_then (pair_cmp p q) o) (keys_compared xs ys one.1 other.1)

-- keys compare as the pairs of which they tell
pub by_keys : (a b : List ℕ) (xs ys : List Pair) → IsOrderKey a xs → IsOrderKey b ys → slice_cmp nat_cmp a b ≡ labels_cmp xs ys
by_keys a b xs ys f g = (λ i. slice_cmp nat_cmp (f.parts i) (g.parts i)) ∙ keys_compared xs ys f.without_end g.without_end

-- keys are the same exactly where the pairs are
pub same_by_keys : (a b : List ℕ) (xs ys : List Pair) → IsOrderKey a xs → IsOrderKey b ys → bytes_eq a b ≡ labels_eq xs ys
same_by_keys a b xs ys f g = texts_ties a b ∙ ap is_eq (by_keys a b xs ys f g) ∙ sym (labels_tie xs ys)

-- where all pairs have texts without the byte of ends, all but the first have
rest_without_end : (pairs : List Pair) → list_all has_texts_without_end pairs ≡ true → list_all has_texts_without_end (drop 1 pairs) ≡ true
rest_without_end [] h = h
rest_without_end (p ∷ pairs) h = (both (has_texts_without_end p) (list_all has_texts_without_end pairs) h).1

-- a key of pairs whose texts are without the byte of ends, with the key of all but the first in it
pub keyed_by : (key : List ℕ) (begin : ℕ) (pairs : List Pair) → key ≡ order_key pairs → drop begin key ≡ order_key (drop 1 pairs) → list_all has_texts_without_end pairs ≡ true → HasOrderKeys key begin pairs
keyed_by key begin pairs whole rest without_end = record {
  whole = record { parts = whole; without_end = without_end };
  rest = record { parts = rest; without_end = rest_without_end pairs without_end };
}
