-- A list in order rises, and elements of which none comes before the other stand in it as they did.
-- No other list is such, so a stable sort gives it.
use Rattle.std.proofs.Common.{◌≡◌, ℕ, zero, suc, ◌<◌, ◌≤◌, Bool, true, false, not, cond, List, [], ◌∷◌, length, get_or, filter, refl, sym, ap, ◌∙◌, add-one, arith, inl, inr, suc-le-suc, zero-le}
use Rattle.std.proofs.lemmas.Bool.{cond-true, cond-false, cases_Bool, and_parts, and_from, not-true, true≢false}
use Rattle.std.proofs.lemmas.List.Sorted.{sorted_far}
use Rattle.std.specs.Cmp.{IsStrictWeakOrder}
use Rattle.std.specs.List.{AllByRecursion}
use Rattle.std.specs.List.Sorted.{ties, IsSortedBy, IsStableBy}
use Rattle.pr_rulefile.specs.Order.{inserted, ordered}

module _ {X : Type 0} where
  kept : (p : X → Bool) (y : X) (ys : List X) → p y ≡ true → filter p (y ∷ ys) ≡ y ∷ filter p ys
  kept p y ys h = cond-true _ _ _ h

  dropped : (p : X → Bool) (y : X) (ys : List X) → p y ≡ false → filter p (y ∷ ys) ≡ filter p ys
  dropped p y ys h = cond-false _ _ _ h

  all_at : (P : X → Type 0) (ys : List X) → ((j : ℕ) (d : X) → j < length ys → P (get_or ys j d)) → AllByRecursion P ys
  all_at P [] h = tt
  all_at P (y ∷ ys) h = (h zero y (suc-le-suc zero-le), all_at P ys (λ j d lt. h (suc j) d (suc-le-suc lt)))

  -- each is followed by none that comes before it
  abbrev Rises : (X → X → Bool) → List X → Type 0
  Rises before [] = Unit {0}
  Rises before (y ∷ ys) = AllByRecursion (λ z. before z y ≡ false) ys × Rises before ys

  module _ (before : X → X → Bool) (o : IsStrictWeakOrder before) where
    self : (x : X) → before x x ≡ false
    self x = elim (cases_Bool (before x x)) [ inl e ↦ o.one_way x x e | inr e ↦ e ]

    tied : (x y : X) → ties before x y ≡ true → (before x y ≡ false) × (before y x ≡ false)
    tied x y h =
        let parts = and_parts (not (before x y)) (not (before y x)) h in
        (not-true (before x y) parts.0, not-true (before y x) parts.1)

    tie : (x y : X) → before x y ≡ false → before y x ≡ false → ties before x y ≡ true
    tie x y p q = and_from (not (before x y)) (not (before y x)) (ap not p) (ap not q)

    rises_far : (xs : List X) → ((i j : ℕ) (d : X) → i ≤ j → j < length xs → before (get_or xs j d) (get_or xs i d) ≡ false) → Rises before xs
    rises_far [] h = tt
    rises_far (x ∷ xs) h = (
      all_at (λ z. before z x ≡ false) xs (λ j d lt. h zero (suc j) d zero-le (suc-le-suc lt)),
      rises_far xs (λ i j d le lt. h (suc i) (suc j) d (suc-le-suc le) (suc-le-suc lt)),
    )

    rises_from : (xs : List X) → IsSortedBy before xs → Rises before xs
    rises_from xs up = rises_far xs (sorted_far before o xs up)

    next : (xs : List X) (k : ℕ) (d : X) → suc k < length xs → Rises before xs → before (get_or xs (suc k) d) (get_or xs k d) ≡ false
    next [] k d w h = absurd (omega arith)
    next (x ∷ []) k d w h = absurd (omega arith)
    next (x ∷ y ∷ ys) zero d w h = h.0.0
    next (x ∷ y ∷ ys) (suc k) d w h = next (y ∷ ys) k d (omega arith) h.1

    sorted_from : (xs : List X) → Rises before xs → IsSortedBy before xs
    sorted_from xs h k d low high = ap (λ n. before (get_or xs n d) (get_or xs k d)) (add-one k) ∙ next xs k d (omega arith) h

    -- x does not come before z, where one that ties with x stands among those that do not
    found : (x z : X) (ys : List X) (w : X) (ws : List X) → AllByRecursion (λ y. before y z ≡ false) ys → filter (ties before x) ys ≡ w ∷ ws → before x z ≡ false
    found x z [] w ws h e = cc
    found x z (y ∷ ys) w ws h e =
        elim (cases_Bool (ties before x y)) [
          | inl with ↦ o.chain x y z (tied x y with).0 h.0
          | inr without ↦ found x z ys w ws h.1 (sym (dropped (ties before x) y ys without) ∙ e)
        ]

    -- two lists that rise, and in which elements that tie stand alike, are one
    same : (xs ys : List X) → Rises before xs → Rises before ys → ((x : X) → filter (ties before x) xs ≡ filter (ties before x) ys) → xs ≡ ys
    same [] [] left right alike = refl
    same [] (y ∷ ys) left right alike =
        let clash = alike y ∙ kept (ties before y) y ys (tie y y (self y) (self y)) in cc
    same (x ∷ xs) [] left right alike =
        let clash = sym (alike x) ∙ kept (ties before x) x xs (tie x x (self x) (self x)) in cc
    same (x ∷ xs) (y ∷ ys) left right alike =
        let at_x = kept (ties before x) x xs (tie x x (self x) (self x)) in
        let at_y = kept (ties before y) y ys (tie y y (self y) (self y)) in
        let up = found x y (y ∷ ys) x _ (self y, right.0) (sym (alike x) ∙ at_x) in
        let down = found y x (x ∷ xs) y _ (self x, left.0) (alike y ∙ at_y) in
        let heads = sym at_x ∙ alike x ∙ kept (ties before x) y ys (tie x y up down) in
        let head : x ≡ y = cc in
        let tails : (w : X) → filter (ties before w) xs ≡ filter (ties before w) ys =
        λ w. elim (cases_Bool (ties before w x)) [
          | inl with ↦
              let both = sym (kept (ties before w) x xs with) ∙ alike w ∙ kept (ties before w) y ys (ap (ties before w) (sym head) ∙ with) in cc
          | inr without ↦
              sym (dropped (ties before w) x xs without) ∙ alike w ∙ dropped (ties before w) y ys (ap (ties before w) (sym head) ∙ without)
        ] in
        ap (λ w. w ∷ xs) head ∙ ap (λ l. y ∷ l) (same xs ys left.1 right.1 tails)

    all_placed : (P : X → Type 0) (x : X) (ys : List X) → P x → AllByRecursion P ys → AllByRecursion P (inserted before x ys)
    all_placed P x [] h a = (h, tt)
    all_placed P x (y ∷ ys) h a = by (before y x) (all_placed P x ys h a.1) where
      by : (b : Bool) → AllByRecursion P (inserted before x ys) → AllByRecursion P (cond b (y ∷ inserted before x ys) (x ∷ y ∷ ys))
      by true more = (a.0, more)
      by false more = (h, a)

    all_behind : (x y : X) (zs : List X) → before y x ≡ false → AllByRecursion (λ z. before z y ≡ false) zs → AllByRecursion (λ z. before z x ≡ false) zs
    all_behind x y [] h a = tt
    all_behind x y (z ∷ zs) h a = (o.chain z y x a.0 h, all_behind x y zs h a.1)

    rises_placed : (x : X) (ys : List X) → Rises before ys → Rises before (inserted before x ys)
    rises_placed x [] r = (tt, tt)
    rises_placed x (y ∷ ys) r = by (before y x) refl (rises_placed x ys r.1) where
      by : (b : Bool) → before y x ≡ b → Rises before (inserted before x ys) → Rises before (cond b (y ∷ inserted before x ys) (x ∷ y ∷ ys))
      by true e more = (all_placed (λ z. before z y ≡ false) x ys (o.one_way y x e) r.0, more)
      by false e more = ((e, all_behind x y ys e r.0), r)

    pub rises_ordered : (xs : List X) → Rises before (ordered before xs)
    rises_ordered [] = tt
    rises_ordered (x ∷ xs) = rises_placed x (ordered before xs) (rises_ordered xs)

    -- elements that tie stand as before where one is put in its place
    filter_placed : (w x : X) (ys : List X) → filter (ties before w) (inserted before x ys) ≡ filter (ties before w) (x ∷ ys)
    filter_placed w x [] = refl
    filter_placed w x (y ∷ ys) = by (before y x) refl (filter_placed w x ys) where
      swapped : (a b : Bool) (r : List X) → (a ≡ true → b ≡ true → ⊥) → cond a (y ∷ cond b (x ∷ r) r) (cond b (x ∷ r) r) ≡ cond b (x ∷ cond a (y ∷ r) r) (cond a (y ∷ r) r)
      swapped true true r h = absurd (h refl refl)
      swapped true false r h = refl
      swapped false true r h = refl
      swapped false false r h = refl

      by : (b : Bool) → before y x ≡ b → filter (ties before w) (inserted before x ys) ≡ filter (ties before w) (x ∷ ys) →
          filter (ties before w) (cond b (y ∷ inserted before x ys) (x ∷ y ∷ ys)) ≡ filter (ties before w) (x ∷ y ∷ ys)
      by true e more =
          ap (λ l. cond (ties before w y) (y ∷ l) l) more
          ∙ swapped (ties before w y) (ties before w x) (filter (ties before w) ys) (λ p q. true≢false (sym e ∙ o.chain y w x (tied w y p).1 (tied w x q).0))
      by false e more = refl

    pub ties_ordered : (xs : List X) → IsStableBy before xs (ordered before xs)
    ties_ordered [] w = refl
    ties_ordered (x ∷ xs) w = filter_placed w x (ordered before xs) ∙ ap (λ l. cond (ties before w x) (x ∷ l) l) (ties_ordered xs w)

    pub sorted_ordered : (xs : List X) → IsSortedBy before (ordered before xs)
    sorted_ordered xs = sorted_from (ordered before xs) (rises_ordered xs)

    pub only_ordered : (xs ys : List X) → IsSortedBy before ys → IsStableBy before xs ys → ys ≡ ordered before xs
    only_ordered xs ys up stable =
        same ys (ordered before xs) (rises_from ys up) (rises_ordered xs) (λ w. stable w ∙ sym (ties_ordered xs w))
