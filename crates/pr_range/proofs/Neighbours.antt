-- The last of a list, and each of its items with the next one.
use Rattle.std.proofs.Common.{◌≡◌, ℕ, suc, ◌+◌, ◌-◌, ◌<◌, ◌≤◌, List, [], ◌∷◌, length, get_or, drop, slice_get, Some, None, refl, ap, ◌∙◌, arith}
use Rattle.std.proofs.lemmas.List.{drop_more}
use Rattle.spec_vectors.specs.pr_num.declared.value.Num.{Num}
use Rattle.pr_head.specs.spec_history.declared.spot.Spot.{Spot}
use Rattle.spec_vectors.specs.Extrapolation.{last_two}
use Rattle.spec_vectors.specs.Spots.{last_of, neighbours, numbers_of}

last_at : {X : Type 0} (y : X) (ys : List X) → slice_get (y ∷ ys) (length ys) ≡ Some (last_of y ys)
last_at y [] = refl
last_at y (z ∷ zs) = last_at z zs

one_less : (n : ℕ) → suc n - 1 ≡ n
one_less n = omega arith

pub last_some : (first : Spot) (rest : List Spot) (x : Spot) → Some x ≡ slice_get rest (length rest - 1) → x ≡ last_of first rest
last_some first [] x h = cc
last_some first (y ∷ ys) x h = let same : Some x ≡ Some (last_of y ys) = h ∙ ap (slice_get (y ∷ ys)) (one_less (length ys)) ∙ last_at y ys in cc

pub last_none : (first : Spot) (rest : List Spot) → None ≡ slice_get rest (length rest - 1) → first ≡ last_of first rest
last_none first [] h = refl
last_none first (y ∷ ys) h = let same : None ≡ Some (last_of y ys) = h ∙ ap (slice_get (y ∷ ys)) (one_less (length ys)) ∙ last_at y ys in cc

-- the last two of a list
pub two_first : (first : Spot) (rest : List Spot) (d : Spot) → 2 ≤ length rest → get_or rest (length rest - 2) d ≡ (last_two first rest).0
two_first first [] d h = absurd (omega arith)
two_first first (y ∷ []) d h = absurd (omega arith)
two_first first (y ∷ z ∷ []) d h = refl
two_first first (y ∷ z ∷ w ∷ ws) d h =
    let less : suc (suc (suc (length ws))) - 2 ≡ suc (suc (suc (length ws)) - 2) = omega arith in
    ap (λ n. get_or (y ∷ z ∷ w ∷ ws) n d) less ∙ two_first y (z ∷ w ∷ ws) d (omega arith)

pub two_last : (first : Spot) (rest : List Spot) (d : Spot) → 2 ≤ length rest → get_or rest (length rest - 1) d ≡ (last_two first rest).1
two_last first [] d h = absurd (omega arith)
two_last first (y ∷ []) d h = absurd (omega arith)
two_last first (y ∷ z ∷ []) d h = refl
two_last first (y ∷ z ∷ w ∷ ws) d h =
    let less : suc (suc (suc (length ws))) - 1 ≡ suc (suc (suc (length ws)) - 1) = omega arith in
    ap (λ n. get_or (y ∷ z ∷ w ∷ ws) n d) less ∙ two_last y (z ∷ w ∷ ws) d (omega arith)
