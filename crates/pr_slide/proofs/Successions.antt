-- What is counted when values come at the end and go at the front.
use Rattle.std.proofs.Common.{◌≡◌, ℕ, ◌+◌, ◌<◌, ◌≤◌, nat_lt, ℤ, pos, negsuc, Bool, true, false, ◌&&◌, ◌||◌, cond, List, [], ◌∷◌, ◌++◌, length, map, Some, None, refl, sym, ap, subst, ◌∙◌, arith}
use Rattle.std.specs.Prelude.{count_by, filter}
use Rattle.std.specs.List.{list_all}
use Rattle.std.proofs.lemmas.Grind.{common_steps}
use Rattle.std.proofs.lemmas.List.{length-map, map-append}
use Rattle.std.proofs.lemmas.List.Elements.{filter-append}
use Rattle.std.proofs.lemmas.List.Folds.{list_all-append}
use Rattle.std.proofs.lemmas.List.Sums.{count_by-le-length, length-filter, sum_by-cons, sum_by_push}
use Rattle.pr_num.specs.declared.value.Num.{Num}
use Rattle.pr_num.specs.Total.{Tally, joined, no_values, total_of}
use Rattle.pr_head.specs.spec_history.declared.spot.Spot.{Spot}
use Rattle.pr_head.specs.spec_history.Lookback.{is_after}
use Rattle.pr_range.specs.spec_vectors.Histogram.{is_special}
use Rattle.pr_range.specs.spec_vectors.Ranges.{differ}
use Rattle.pr_range.specs.spec_vectors.Spots.{falls, has_special, last_of, neighbours, numbers_of}
use Rattle.pr_range.specs.pr_window.private.Folding.{folded}
use Rattle.pr_range.specs.pr_window.declared.folds.neighbours.Neighbours.{Neighbours}
use Rattle.pr_range.specs.pr_window.private.Neighbours.{beside, neighbours_of, one_if, spot_alone}
use Rattle.pr_range.specs.pr_window.private.Totals.{total_alone}
use Rattle.pr_range.proofs.WindowSummaries.{sequence_folded, total_folded}
use Rattle.pr_slide.specs.declared.successive.SuccessiveCounts.{SuccessiveCounts}
use Rattle.pr_slide.specs.private.Later.{later}
use Rattle.pr_slide.specs.private.Successions.{AreCounted, before_fall, before_falls, changes_at, changes_in, is_fall, is_rising, rises, specials_in}

-- One more value at the end, of some.
neighbours_push : {X : Type 0} (x : X) (xs : List X) (z : X) → neighbours ((x ∷ xs) ++ z ∷ []) ≡ neighbours (x ∷ xs) ++ (last_of x xs, z) ∷ []
neighbours_push x [] z = refl
neighbours_push x (y ∷ ys) z = ap (λ l. (x, y) ∷ l) (neighbours_push y ys z)

last_value : (x : Spot) (xs : List Spot) → last_of x.value (numbers_of xs) ≡ (last_of x xs).value
last_value x [] = refl
last_value x (y ∷ ys) = last_value y ys

rising_push : (x : Spot) (xs : List Spot) (z : Spot) → list_all rises (neighbours (x ∷ xs)) ≡ true → (last_of x xs).time < z.time → list_all rises (neighbours ((x ∷ xs) ++ z ∷ [])) ≡ true
rising_push x xs z rising later =
    let rises_too : nat_lt (last_of x xs).time z.time ≡ true = grind (arith, common_steps) in
    ap (list_all rises) (neighbours_push x xs z) ∙ list_all-append rises (neighbours (x ∷ xs)) ((last_of x xs, z) ∷ []) ∙ (λ i. rising i && (rises_too i && true))

falls_push : (x : Spot) (xs : List Spot) (z : Spot) → before_falls ((x ∷ xs) ++ z ∷ []) ≡ before_falls (x ∷ xs) ++ before_fall (last_of x xs) z
falls_push x xs z =
    ap (λ l. map (λ (p : Spot × Spot). p.0) (filter is_fall l)) (neighbours_push x xs z)
    ∙ ap (λ l. map (λ (p : Spot × Spot). p.0) l) (filter-append is_fall (neighbours (x ∷ xs)) ((last_of x xs, z) ∷ []))
    ∙ map-append (λ (p : Spot × Spot). p.0) (filter is_fall (neighbours (x ∷ xs))) (filter is_fall ((last_of x xs, z) ∷ []))

changes_push : (x : Spot) (xs : List Spot) (z : Spot) → changes_in ((x ∷ xs) ++ z ∷ []) ≡ changes_in (x ∷ xs) + one_if (differ ((last_of x xs).value, z.value))
changes_push x xs z =
    ap (λ l. count_by differ (neighbours (x.value ∷ l))) (map-append (λ (s : Spot). s.value) xs (z ∷ []))
    ∙ ap (count_by differ) (neighbours_push x.value (numbers_of xs) z.value)
    ∙ sum_by_push (λ (p : Num × Num). cond (differ p) 1 0) (neighbours (numbers_of (x ∷ xs))) (last_of x.value (numbers_of xs), z.value)
    ∙ ap (λ (v : Num). changes_in (x ∷ xs) + one_if (differ (v, z.value))) (last_value x xs)

specials_push : (xs : List Spot) (z : Spot) → specials_in (xs ++ z ∷ []) ≡ specials_in xs + one_if (is_special z.value)
specials_push xs z = ap (count_by is_special) (map-append (λ (s : Spot). s.value) xs (z ∷ [])) ∙ sum_by_push (λ (v : Num). cond (is_special v) 1 0) (numbers_of xs) z.value

-- The first value, of some.
pub changes_first : (x : Spot) (xs : List Spot) → changes_in (x ∷ xs) ≡ one_if (changes_at x xs) + changes_in xs
changes_first x [] = refl
changes_first x (y ∷ ys) = sum_by-cons (λ (p : Num × Num). cond (differ p) 1 0) (x.value, y.value) (neighbours (numbers_of (y ∷ ys)))

pub specials_first : (x : Spot) (xs : List Spot) → specials_in (x ∷ xs) ≡ one_if (is_special x.value) + specials_in xs
specials_first x xs = sum_by-cons (λ (v : Num). cond (is_special v) 1 0) x.value (numbers_of xs)

-- No more are counted than there are.
pub changes_few : (xs : List Spot) → changes_in xs ≤ length xs
changes_few [] = omega arith
changes_few (x ∷ xs) = omega (arith, changes_first x xs, changes_few xs, one_few (changes_at x xs)) where
  one_few : (b : Bool) → one_if b ≤ 1
  one_few true = omega arith
  one_few false = omega arith

pub specials_few : (xs : List Spot) → specials_in xs ≤ length xs
specials_few xs = omega (arith, count_by-le-length is_special (numbers_of xs), length-map xs (λ (s : Spot). s.value))

-- The first values go that are not after a moment.
pub after_up : (a : ℤ) (s t : ℕ) → is_after a s ≡ true → s ≤ t → is_after a t ≡ true
after_up (pos a) s t h k = grind (arith, common_steps)
after_up (negsuc a) s t h k = refl

next_rises : (x y : Spot) (ys : List Spot) → list_all rises (neighbours (x ∷ y ∷ ys)) ≡ true → x.time < y.time
next_rises x y ys h = by (nat_lt x.time y.time) refl h where
  by : (b : Bool) → nat_lt x.time y.time ≡ b → (b && list_all rises (neighbours (y ∷ ys))) ≡ true → x.time < y.time
  by true e k = grind (arith, common_steps)
  by false e k = absurd (cc)

rest_rises : (x : Spot) (xs : List Spot) → list_all rises (neighbours (x ∷ xs)) ≡ true → list_all rises (neighbours xs) ≡ true
rest_rises x [] h = refl
rest_rises x (y ∷ ys) h = by (nat_lt x.time y.time) h where
  by : (b : Bool) → (b && list_all rises (neighbours (y ∷ ys))) ≡ true → list_all rises (neighbours (y ∷ ys)) ≡ true
  by true k = k
  by false k = absurd (cc)

-- Where values rise with one more, the last of them comes before it.
pub rises_last : (x : Spot) (xs : List Spot) (z : Spot) → is_rising ((x ∷ xs) ++ z ∷ []) ≡ true → (last_of x xs).time < z.time
rises_last x [] z h = next_rises x z [] h
rises_last x (y ∷ ys) z h = rises_last y ys z (rest_rises x (y ∷ (ys ++ z ∷ [])) h)

pub not_rising : (x : Spot) (xs : List Spot) (z : Spot) (spots : List Spot) → spots ≡ x ∷ xs → nat_lt (last_of x xs).time z.time ≡ false → is_rising (spots ++ z ∷ []) ≡ true → false ≡ true
not_rising x xs z spots same late rising =
    let later = rises_last x xs z (subst (λ l. is_rising (l ++ z ∷ []) ≡ true) same rising) in
    let yes : nat_lt (last_of x xs).time z.time ≡ true = grind (arith, common_steps) in
    sym late ∙ yes

all_later : (a : ℤ) (x : Spot) (xs : List Spot) → is_after a x.time ≡ true → list_all rises (neighbours (x ∷ xs)) ≡ true → later a (before_falls (x ∷ xs)) ≡ before_falls (x ∷ xs)
all_later a x [] h rising = refl
all_later a x (y ∷ ys) h rising =
    by (is_fall (x, y)) (all_later a y ys (after_up a x.time y.time h (omega (arith, next_rises x y ys rising))) (rest_rises x (y ∷ ys) rising)) where
      by : (fell : Bool) → later a (before_falls (y ∷ ys)) ≡ before_falls (y ∷ ys)
          → later a (map (λ (p : Spot × Spot). p.0) (cond fell ((x, y) ∷ filter is_fall (neighbours (y ∷ ys))) (filter is_fall (neighbours (y ∷ ys)))))
          ≡ map (λ (p : Spot × Spot). p.0) (cond fell ((x, y) ∷ filter is_fall (neighbours (y ∷ ys))) (filter is_fall (neighbours (y ∷ ys))))
      by true rest = ap (λ b. cond b (x ∷ before_falls (y ∷ ys)) (later a (before_falls (y ∷ ys)))) h
      by false rest = rest

falls_later : (a : ℤ) (xs : List Spot) → list_all rises (neighbours xs) ≡ true → later a (before_falls xs) ≡ before_falls (later a xs)
falls_later a [] rising = refl
falls_later a (x ∷ []) rising = by (is_after a x.time) where
  by : (b : Bool) → [] ≡ before_falls (cond b (x ∷ []) [])
  by true = refl
  by false = refl
falls_later a (x ∷ y ∷ ys) rising = by (is_after a x.time) refl (falls_later a (y ∷ ys) (rest_rises x (y ∷ ys) rising)) where
  gone : (fell : Bool) → is_after a x.time ≡ false → later a (before_falls (y ∷ ys)) ≡ before_falls (later a (y ∷ ys))
      → later a (map (λ (p : Spot × Spot). p.0) (cond fell ((x, y) ∷ filter is_fall (neighbours (y ∷ ys))) (filter is_fall (neighbours (y ∷ ys))))) ≡ before_falls (later a (y ∷ ys))
  gone true h rest = ap (λ b. cond b (x ∷ before_falls (y ∷ ys)) (later a (before_falls (y ∷ ys)))) h ∙ rest
  gone false h rest = rest

  by : (b : Bool) → is_after a x.time ≡ b → later a (before_falls (y ∷ ys)) ≡ before_falls (later a (y ∷ ys))
      → later a (before_falls (x ∷ y ∷ ys)) ≡ before_falls (cond b (x ∷ y ∷ ys) (later a (y ∷ ys)))
  by true h rest = all_later a x (y ∷ ys) h rising
  by false h rest = gone (is_fall (x, y)) h rest

rising_later : (a : ℤ) (xs : List Spot) → list_all rises (neighbours xs) ≡ true → list_all rises (neighbours (later a xs)) ≡ true
rising_later a [] rising = refl
rising_later a (x ∷ xs) rising = by (is_after a x.time) (rising_later a xs (rest_rises x xs rising)) where
  by : (b : Bool) → list_all rises (neighbours (later a xs)) ≡ true → list_all rises (neighbours (cond b (x ∷ xs) (later a xs))) ≡ true
  by true rest = rising
  by false rest = rest

-- What the values that stand before a lower one add up to.
pub lost_some : (xs : List Spot) (t : Tally) → Some t ≡ folded total_alone joined xs → t ≡ total_of (numbers_of xs)
lost_some [] t h = cc
lost_some (x ∷ xs) t h = let same : Some t ≡ Some (total_of (numbers_of (x ∷ xs))) = h ∙ total_folded x xs in cc

pub lost_none : (xs : List Spot) → None ≡ folded total_alone joined xs → no_values ≡ total_of (numbers_of xs)
lost_none [] h = refl
lost_none (x ∷ xs) h = let same : None ≡ Some (total_of (numbers_of (x ∷ xs))) = h ∙ total_folded x xs in cc

-- What is counted is what the values fold to.
fallen_numbers : (xs : List Spot) → numbers_of (before_falls xs) ≡ map (λ (p : Num × Num). p.0) (filter falls (neighbours (numbers_of xs)))
fallen_numbers [] = refl
fallen_numbers (x ∷ []) = refl
fallen_numbers (x ∷ y ∷ ys) = by (falls (x.value, y.value)) (fallen_numbers (y ∷ ys)) where
  by : (fell : Bool) → numbers_of (before_falls (y ∷ ys)) ≡ map (λ (p : Num × Num). p.0) (filter falls (neighbours (numbers_of (y ∷ ys))))
      → numbers_of (map (λ (p : Spot × Spot). p.0) (cond fell ((x, y) ∷ filter is_fall (neighbours (y ∷ ys))) (filter is_fall (neighbours (y ∷ ys)))))
      ≡ map (λ (p : Num × Num). p.0) (cond fell ((x.value, y.value) ∷ filter falls (neighbours (numbers_of (y ∷ ys)))) (filter falls (neighbours (numbers_of (y ∷ ys)))))
  by true rest = ap (λ l. x.value ∷ l) rest
  by false rest = rest

fallen_count : (xs : List Spot) → length (before_falls xs) ≡ count_by falls (neighbours (numbers_of xs))
fallen_count xs =
    sym (length-map (before_falls xs) (λ (s : Spot). s.value)) ∙ ap length (fallen_numbers xs)
    ∙ length-map (filter falls (neighbours (numbers_of xs))) (λ (p : Num × Num). p.0) ∙ length-filter falls (neighbours (numbers_of xs))

some_counted : (vs : List Num) → nat_lt 0 (count_by is_special vs) ≡ has_special vs
some_counted [] = refl
some_counted (v ∷ vs) = ap (nat_lt 0) (sum_by-cons (λ (u : Num). cond (is_special u) 1 0) v vs) ∙ by (is_special v) (some_counted vs) where
  by : (b : Bool) → nat_lt 0 (count_by is_special vs) ≡ has_special vs → nat_lt 0 (cond b 1 0 + count_by is_special vs) ≡ (b || has_special vs)
  by true rest = grind (arith, common_steps)
  by false rest = let none : 0 + count_by is_special vs ≡ count_by is_special vs = omega arith in ap (nat_lt 0) none ∙ rest

pub counts_fold : (x : Spot) (xs : List Spot) (counts : SuccessiveCounts) (s : Neighbours) → AreCounted (x ∷ xs) counts → s.first ≡ x → s.last ≡ last_of x xs → s.count ≡ length (x ∷ xs)
    → s.lost ≡ total_of (numbers_of counts.fallen.items) → s.resets ≡ length counts.fallen.items → s.changes ≡ counts.changes → s.special ≡ nat_lt 0 counts.special → Some s ≡ folded spot_alone beside (x ∷ xs)
counts_fold x xs counts s are first last count lost resets changes special = ap (λ (n : Neighbours). Some n) same ∙ sym (sequence_folded x xs) where
  more : s.count ≡ length xs + 1
  more = omega arith

  lost_is : s.lost ≡ (neighbours_of x xs).lost
  lost_is = lost ∙ ap (λ l. total_of (numbers_of l)) are.fallen ∙ ap total_of (fallen_numbers (x ∷ xs))

  resets_are : s.resets ≡ (neighbours_of x xs).resets
  resets_are = resets ∙ ap length are.fallen ∙ fallen_count (x ∷ xs)

  changes_are : s.changes ≡ (neighbours_of x xs).changes
  changes_are = changes ∙ are.changes

  special_is : s.special ≡ (neighbours_of x xs).special
  special_is = special ∙ ap (nat_lt 0) are.special ∙ some_counted (numbers_of (x ∷ xs))

  same : s ≡ neighbours_of x xs
  same = λ i. record (neighbours_of x xs) { first = first i; last = last i; count = more i; lost = lost_is i; resets = resets_are i; changes = changes_are i; special = special_is i }

-- The counts of values with one more, or with fewer.
pub counted_more : (x : Spot) (xs : List Spot) (z : Spot) (before after : SuccessiveCounts) → AreCounted (x ∷ xs) before → (last_of x xs).time < z.time → after.fallen.items ≡ before.fallen.items ++ before_fall (last_of x xs) z
    → after.changes ≡ before.changes + one_if (differ ((last_of x xs).value, z.value)) → after.special ≡ before.special + one_if (is_special z.value) → AreCounted ((x ∷ xs) ++ z ∷ []) after
counted_more x xs z before after are later fallen changes special = record {
  rising = rising_push x xs z are.rising later;
  fallen = fallen ∙ ap (λ l. l ++ before_fall (last_of x xs) z) are.fallen ∙ sym (falls_push x xs z);
  changes = changes ∙ ap (λ n. n + one_if (differ ((last_of x xs).value, z.value))) are.changes ∙ sym (changes_push x xs z);
  special = special ∙ ap (λ n. n + one_if (is_special z.value)) are.special ∙ sym (specials_push (x ∷ xs) z);
}

pub counted_later : (a : ℤ) (xs : List Spot) (before after : SuccessiveCounts) → AreCounted xs before → after.fallen.items ≡ later a before.fallen.items → after.changes ≡ changes_in (later a xs) → after.special ≡ specials_in (later a xs)
    → AreCounted (later a xs) after
counted_later a xs before after are fallen changes special = record {
  rising = rising_later a xs are.rising;
  fallen = fallen ∙ ap (later a) are.fallen ∙ falls_later a xs are.rising;
  changes = changes;
  special = special;
}
