-- A window that goes on to a later range.
use Rattle.std.proofs.Common.{◌≡◌, ℕ, zero, suc, ℤ, ◌-◌, ◌≤◌, ◌≤ℤ◌, max, Bool, true, false, cond, ◌&&◌, List, [], ◌∷◌, ◌++◌, length, map, take, drop, filter, refl, sym, ap, ◌∙◌, arith}
use Rattle.std.specs.List.{cons_option, filter_map, list_all}
use Rattle.pr_num.specs.declared.value.Point.{Point}
use Rattle.pr_num.specs.declared.value.Point.TheVariants.{Value, Stale}
use Rattle.pr_head.specs.spec_history.declared.entry.Entry.{Entry}
use Rattle.pr_head.specs.spec_history.Lookback.{is_after, is_until, spot_in}
use Rattle.pr_head.specs.declared.timed.Timed.{Timed}
use Rattle.pr_head.specs.private.Holds.{timed}
use Rattle.pr_head.proofs.Newest.{Rises}
use Rattle.pr_range.specs.private.Spots.{spots_of}
use Rattle.pr_range.proofs.Timeline.{until, after, between, between_is, after_is, until_up, none_until, until_is_front}
use Rattle.pr_slide.specs.private.Later.{later}
use Rattle.pr_slide.proofs.Successions.{after_up}

-- what is after a later moment is after an earlier one
after_down : (a b : ℤ) (t : ℕ) → a ≤ℤ b → is_after b t ≡ true → is_after a t ≡ true
after_down a b t h k = by (is_until a t) refl where
  by : (u : Bool) → is_until a t ≡ u → is_after a t ≡ true
  by true e = let later = until_up a b t h e in let k' = after_is b t true later in cc
  by false e = after_is a t false e

-- where the first is after a moment, all are
all_after : (a : ℤ) (t : ℕ) (xs : List Timed) → is_after a t ≡ true → Rises t xs → after a xs ≡ xs
all_after a t [] h k = refl
all_after a t (x ∷ xs) h k =
    let here = after_up a t x.time h k.0 in
    ap (λ b. cond b (x ∷ after a xs) (after a xs)) here ∙ ap (λ l. x ∷ l) (all_after a x.time xs here k.1)

pub rises_front : (u t : ℕ) (xs : List Timed) → Rises t xs → Rises t (take u xs)
rises_front zero t xs h = tt
rises_front (suc u) t [] h = tt
rises_front (suc u) t (x ∷ xs) h = (h.0, rises_front u x.time xs h.1)

-- the first values go, until one is after a later moment
pub later_again : (a b : ℤ) (t : ℕ) (xs : List Timed) → a ≤ℤ b → Rises t xs → later b (spots_of (after a xs)) ≡ spots_of (after b xs)
later_again a b t [] h k = refl
later_again a b t (x ∷ xs) h k = by (is_after b x.time) refl (is_after a x.time) refl x.point refl (later_again a b x.time xs h k.1) where
  rest_same : is_after b x.time ≡ true → spots_of (after a xs) ≡ spots_of (after b xs)
  rest_same e = ap spots_of (all_after a x.time xs (after_down a b x.time h e) k.1 ∙ sym (all_after b x.time xs e k.1))

  by : (v : Bool) → is_after b x.time ≡ v → (u : Bool) → is_after a x.time ≡ u → (p : Point) → x.point ≡ p → later b (spots_of (after a xs)) ≡ spots_of (after b xs)
      → later b (spots_of (cond u (x ∷ after a xs) (after a xs))) ≡ spots_of (cond v (x ∷ after b xs) (after b xs))
  by true e true f (Value v) g rest = rw (g, e) (ap (λ l. record { time = x.time; value = v } ∷ l) (rest_same e))
  by true e true f Stale g rest = rw g rest
  by true e false f p g rest = let j = after_down a b x.time h e in cc
  by false e true f (Value v) g rest = rw (g, e) rest
  by false e true f Stale g rest = rw g rest
  by false e false f p g rest = rest

-- a front of entries that are until a moment is no longer than those until a later one
pub front_until : (b c : ℤ) (u : ℕ) (es : List Entry) → b ≤ℤ c → u ≤ length es → list_all (λ e. is_until b e.time) (take u es) ≡ true → u ≤ length (until c (map timed es))
front_until b c zero es h k e = omega arith
front_until b c (suc u) [] h k e = absurd (omega arith)
front_until b c (suc u) (x ∷ es) h k e = by (is_until b x.time) refl e (front_until b c u es h (omega arith)) where
  by : (t : Bool) → is_until b x.time ≡ t → (t && list_all (λ y. is_until b y.time) (take u es)) ≡ true → (list_all (λ y. is_until b y.time) (take u es) ≡ true → u ≤ length (until c (map timed es)))
      → suc u ≤ length (cond (is_until c x.time) (timed x ∷ until c (map timed es)) (until c (map timed es)))
  by true f same more = let low = more same in rw (until_up b c x.time h f) (omega arith)
  by false f same more = absurd (cc)

-- and those until a moment are a front
pub until_front : (b : ℤ) (t : ℕ) (es : List Entry) → Rises t (map timed es) → list_all (λ e. is_until b e.time) (take (length (until b (map timed es))) es) ≡ true
until_front b t [] k = refl
until_front b t (x ∷ es) k = by (is_until b x.time) refl (until_front b x.time es k.1) where
  by : (u : Bool) → is_until b x.time ≡ u → list_all (λ e. is_until b e.time) (take (length (until b (map timed es))) es) ≡ true
      → list_all (λ e. is_until b e.time) (take (length (cond u (timed x ∷ until b (map timed es)) (until b (map timed es)))) (x ∷ es)) ≡ true
  by true e rest = ap (λ v. v && list_all (λ y. is_until b y.time) (take (length (until b (map timed es))) es)) e ∙ rest
  by false e rest =
      let none = none_until b x.time (map timed es) (after_is b x.time false e) k.1 in
      ap (λ l. list_all (λ y. is_until b y.time) (take (length l) (x ∷ es))) none

-- the values of entries are those of the samples
pub spots_same : (a : ℤ) (es : List Entry) → filter_map spot_in (filter (λ e. is_after a e.time) es) ≡ spots_of (after a (map timed es))
spots_same a [] = refl
spots_same a (x ∷ es) = by (is_after a x.time) (spots_same a es) where
  by : (u : Bool) → filter_map spot_in (filter (λ e. is_after a e.time) es) ≡ spots_of (after a (map timed es))
      → filter_map spot_in (cond u (x ∷ filter (λ e. is_after a e.time) es) (filter (λ e. is_after a e.time) es)) ≡ spots_of (cond u (timed x ∷ after a (map timed es)) (after a (map timed es)))
  by true rest = ap (cons_option (spot_in x)) rest
  by false rest = rest

-- what was passed and is after the start, and then what was not passed, are those of the range
pub window_step : (a b : ℤ) (t u : ℕ) (xs : List Timed) → a ≤ℤ b → Rises t xs → u ≤ length (until b xs)
    → after a (take u xs) ++ take (length (until b xs) - max (length (until a xs)) u) (drop (max (length (until a xs)) u) xs) ≡ between a b xs
window_step a b t zero xs h k low =
    let none : max (length (until a xs)) 0 ≡ length (until a xs) = omega arith in
    (λ i. take (length (until b xs) - none i) (drop (none i) xs)) ∙ sym (between_is a b t xs h k)
window_step a b t (suc u) [] h k low = absurd (omega arith)
window_step a b t (suc u) (x ∷ xs) h k low = by (is_until b x.time) refl (is_until a x.time) refl low (window_step a b x.time u xs h k.1) where
  both_more : (m n : ℕ) → max (suc m) (suc n) ≡ suc (max m n)
  both_more m n = omega arith

  one_less : (m n : ℕ) → suc m - suc n ≡ m - n
  one_less m n = omega arith

  no_more : (n : ℕ) → max 0 n ≡ n
  no_more n = omega arith

  by : (v : Bool) → is_until b x.time ≡ v → (w : Bool) → is_until a x.time ≡ w → suc u ≤ length (cond v (x ∷ until b xs) (until b xs))
      → (u ≤ length (until b xs) → after a (take u xs) ++ take (length (until b xs) - max (length (until a xs)) u) (drop (max (length (until a xs)) u) xs) ≡ between a b xs)
      → cond (is_after a x.time) (x ∷ after a (take u xs)) (after a (take u xs))
      ++ take (length (cond v (x ∷ until b xs) (until b xs)) - max (length (cond w (x ∷ until a xs) (until a xs))) (suc u)) (drop (max (length (cond w (x ∷ until a xs) (until a xs))) (suc u)) (x ∷ xs))
      ≡ cond (is_after a x.time && v) (x ∷ between a b xs) (between a b xs)
  by false e w f low more =
      let none = none_until b x.time xs (after_is b x.time false e) k.1 in
      let size = ap length none in
      absurd (omega arith)
  by true e true f low more =
      let here = after_is a x.time true f in
      let rest = more (omega arith) in
      rw here ((λ i. after a (take u xs) ++ take (suc (length (until b xs)) - both_more (length (until a xs)) u i) (drop (both_more (length (until a xs)) u i) (x ∷ xs)))
      ∙ (λ i. after a (take u xs) ++ take (one_less (length (until b xs)) (max (length (until a xs)) u) i) (drop (max (length (until a xs)) u) xs)) ∙ rest)
  by true e false f low more =
      let here = after_is a x.time false f in
      let none = none_until a x.time xs here k.1 in
      let size : length (until a xs) ≡ 0 = ap length none in
      let rest = more (omega arith) in
      let first : max (length (until a xs)) (suc u) ≡ suc u = omega arith in
      let second : max (length (until a xs)) u ≡ u = omega arith in
      rw here ((λ i. x ∷ (after a (take u xs) ++ take (suc (length (until b xs)) - first i) (drop (first i) (x ∷ xs))))
      ∙ (λ i. x ∷ (after a (take u xs) ++ take (one_less (length (until b xs)) u i) (drop u xs)))
      ∙ (λ i. x ∷ (after a (take u xs) ++ take (length (until b xs) - sym second i) (drop (sym second i) xs)))
      ∙ ap (λ l. x ∷ l) rest)

-- they are also those of the front that is passed now
filter_both : (a b : ℤ) (xs : List Timed) → between a b xs ≡ after a (until b xs)
filter_both a b [] = refl
filter_both a b (x ∷ xs) = by (is_until b x.time) (is_after a x.time) refl (filter_both a b xs) where
  by : (v w : Bool) → is_after a x.time ≡ w → between a b xs ≡ after a (until b xs) → cond (w && v) (x ∷ between a b xs) (between a b xs) ≡ after a (cond v (x ∷ until b xs) (until b xs))
  by true true e rest = rw e (ap (λ l. x ∷ l) rest)
  by true false e rest = rw e rest
  by false true e rest = rest
  by false false e rest = rest

pub between_front : (a b : ℤ) (t : ℕ) (xs : List Timed) → Rises t xs → between a b xs ≡ after a (take (length (until b xs)) xs)
between_front a b t xs k = filter_both a b xs ∙ ap (after a) (until_is_front b t xs k)
