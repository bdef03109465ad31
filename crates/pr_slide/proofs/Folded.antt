-- Values that are kept with what they fold to.
use Rattle.std.proofs.Common.{◌≡◌, ℕ, suc, ◌+◌, ◌<◌, ℤ, Bool, true, false, not, cond, List, [], ◌∷◌, ◌++◌, length, get_or, slice_get, take, drop, Some, None, refl, sym, ap, ◌∙◌, arith}
use Rattle.std.specs.List.{prefix_len}
use Rattle.std.proofs.lemmas.List.{take_more}
use Rattle.std.proofs.lemmas.Option.{slice_get-get_or, slice_get_within}
use Rattle.pr_head.specs.spec_history.declared.spot.Spot.{Spot}
use Rattle.pr_head.specs.spec_history.Lookback.{is_after}
use Rattle.pr_range.specs.pr_window.private.Windows.{drop_while}
use Rattle.pr_slide.specs.private.Later.{later}

pub dropped_is : (a : ℤ) (spots : List Spot) → drop_while (λ s. not (is_after a s.time)) spots ≡ later a spots
dropped_is a [] = refl
dropped_is a (s ∷ spots) = by (is_after a s.time) (dropped_is a spots) where
  by : (b : Bool) → drop_while (λ x. not (is_after a x.time)) spots ≡ later a spots
      → drop (cond (not b) (1 + prefix_len (λ x. not (is_after a x.time)) spots) 0) (s ∷ spots) ≡ cond b (s ∷ spots) (later a spots)
  by true rest = refl
  by false rest =
      let more : 1 + prefix_len (λ x. not (is_after a x.time)) spots ≡ suc (prefix_len (λ x. not (is_after a x.time)) spots) = omega arith in
      ap (λ n. drop n (s ∷ spots)) more ∙ rest

-- one value more of a list
pub take_one : (xs ys zs : List Spot) (i : ℕ) (x : Spot) → Some x ≡ slice_get xs i → zs ≡ ys ++ x ∷ [] → ys ≡ take i xs → zs ≡ take (i + 1) xs
take_one xs ys zs i x at e h =
    let inside = slice_get_within xs i x (sym at) in
    let is : Some x ≡ Some (get_or xs i x) = at ∙ slice_get-get_or xs i x inside in
    let same : x ≡ get_or xs i x = cc in
    e ∙ ap (λ l. l ++ x ∷ []) h ∙ ap (λ y. take i xs ++ y ∷ []) same ∙ sym (take_more xs i x inside)

pub none_within : {R : Type 0} (xs : List Spot) (i : ℕ) → None ≡ slice_get xs i → i < length xs → R
none_within [] i h k = absurd (omega arith)
none_within (x ∷ xs) i h k = absurd (cc (slice_get-get_or (x ∷ xs) i x k, h))
