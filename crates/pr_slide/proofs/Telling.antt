-- What tells a function of kept values goes on telling it.
use Rattle.std.proofs.Common.{◌≡◌, ℤ, pos, nat_lt, Bool, true, false, ◌&&◌, List, [], ◌∷◌, ◌++◌, refl, sym, ap, subst, ◌∙◌, arith}
use Rattle.std.proofs.lemmas.Grind.{common_steps}
use Rattle.pr_head.specs.spec_history.declared.spot.Spot.{Spot}
use Rattle.pr_range.specs.private.Spots.{AreWithin}
use Rattle.pr_slide.specs.declared.spots.SpotStorage.{SpotStorage}
use Rattle.pr_slide.specs.private.Kinds.{GoOn, kept_in, tells}
use Rattle.pr_slide.specs.private.Successions.{is_rising, rises}

pub going_on : (first middle last : SpotStorage) → GoOn first middle → GoOn middle last → GoOn first last
going_on first middle last h k = record {
  rising = λ r. h.rising (k.rising r);
  told = λ f t r. k.told f (h.told f t (k.rising r)) r;
}

pub unchanged : (first last : SpotStorage) → last ≡ first → GoOn first last
unchanged first last h = record {
  rising = λ r. subst (λ s. is_rising (kept_in s) ≡ true) h r;
  told = λ f t r. subst (λ s. tells f s ≡ true) (sym h) t;
}

-- The values before the last one rise too.
front_rises : (x y : Spot) (ys : List Spot) (z : Spot) → is_rising (x ∷ (y ∷ ys) ++ z ∷ []) ≡ true → is_rising ((y ∷ ys) ++ z ∷ []) ≡ true × (rises (x, y) ≡ true)
front_rises x y ys z h = by (rises (x, y)) refl h where
  by : (b : Bool) → rises (x, y) ≡ b → (b && is_rising ((y ∷ ys) ++ z ∷ [])) ≡ true → is_rising ((y ∷ ys) ++ z ∷ []) ≡ true × (rises (x, y) ≡ true)
  by true e k = (k, e)
  by false e k = absurd (cc)

pub rises_before : (xs : List Spot) (z : Spot) → is_rising (xs ++ z ∷ []) ≡ true → is_rising xs ≡ true
rises_before [] z h = refl
rises_before (x ∷ []) z h = refl
rises_before (x ∷ y ∷ ys) z h =
    let parts = front_rises x y ys z h in
    ap (λ b. b && is_rising (y ∷ ys)) parts.1 ∙ rises_before (y ∷ ys) z parts.0

-- Values of a range rise.
pub within_rises : (a b : ℤ) (xs : List Spot) → AreWithin a b xs → is_rising xs ≡ true
within_rises a b [] h = refl
within_rises a b (x ∷ []) h = refl
within_rises a b (x ∷ y ∷ ys) h =
    let later : nat_lt x.time y.time ≡ true = let above = h.2.0 in grind (arith, common_steps) in
    ap (λ c. c && is_rising (y ∷ ys)) later ∙ within_rises (pos x.time) b (y ∷ ys) h.2
