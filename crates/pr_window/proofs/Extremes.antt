-- The first value in an order is the fold of the first of two.
use Rattle.std.proofs.Common.{◌≡◌, List, [], ◌∷◌, cond, fold, map, refl, ap, ◌∙◌}
use Rattle.std.specs.Ordering.{is_lt, ord_min}
use Rattle.std.specs.declared.cmp.Ordering.{Ordering}
use Rattle.std.specs.declared.cmp.Ordering.TheVariants.{Less, Equal, Greater}
use Rattle.pr_num.specs.declared.value.Num.{Num}
use Rattle.spec_vectors.specs.Aggregation.{first_value, value_placed, with_placed}
use Rattle.pr_window.specs.private.Folding.{and_item}

module _ {T : Type 0} (value : T → Num) (order : Num → Num → Ordering) where
  -- what follows the first value does not matter
  head_only : (a : Num) (rest : List Num) (xs : List T) → fold (and_item value (ord_min order)) a xs ≡ first_value (fold (with_placed order) (a ∷ rest) (map value xs))
  head_only a rest [] = refl
  head_only a rest (x ∷ xs) = by_order (order (value x) a) refl (λ b more. head_only b more xs) where
    by_order : (o : Ordering) → order (value x) a ≡ o → ((b : Num) (more : List Num) → fold (and_item value (ord_min order)) b xs ≡ first_value (fold (with_placed order) (b ∷ more) (map value xs)))
        → fold (and_item value (ord_min order)) (cond (is_lt (order (value x) a)) (value x) a) xs ≡ first_value (fold (with_placed order) (value_placed o (value x) a rest (with_placed order rest (value x))) (map value xs))
    by_order Less e alike = ap (λ (o : Ordering). fold (and_item value (ord_min order)) (cond (is_lt o) (value x) a) xs) e ∙ alike (value x) (a ∷ rest)
    by_order Equal e alike = ap (λ (o : Ordering). fold (and_item value (ord_min order)) (cond (is_lt o) (value x) a) xs) e ∙ alike a (with_placed order rest (value x))
    by_order Greater e alike = ap (λ (o : Ordering). fold (and_item value (ord_min order)) (cond (is_lt o) (value x) a) xs) e ∙ alike a (with_placed order rest (value x))

  pub first_is_folded : (a : Num) (xs : List T) → fold (and_item value (ord_min order)) a xs ≡ first_value (fold (with_placed order) (a ∷ []) (map value xs))
  first_is_folded a xs = head_only a [] xs
