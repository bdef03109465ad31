-- The multiples of a step in a range, counted.
use Rattle.std.proofs.Common.{◌≡◌, ℕ, zero, suc, ◌+◌, ◌-◌, ◌*◌, ◌/◌, ◌≤◌, ◌<◌, ◌^◌, ℤ, pos, negsuc, ◌<ℤ◌, ◌≤ℤ◌, Bool, true, false, cond, [], ◌∷◌, length, nat_lt, filter, slice_get, Some, refl, sym, ap, ◌∙◌, subst, arith}
use Rattle.std.proofs.Math.Nat.{div-mul-le_self, le-div_iff_mul-le, mul-le-mul_left}
use Rattle.std.proofs.lemmas.Bool.{le-ltb, lt-ltb, ltb-false, ltb-true}
use Rattle.std.proofs.lemmas.Int.{ints}
use Rattle.std.proofs.lemmas.List.FromFn.{get_or-map-range_with_len, length-map-range_with_len}
use Rattle.std.proofs.lemmas.Option.{slice_get-get_or}
use Rattle.pr_range.specs.spec_history.Lookback.{is_after}
use Rattle.spec_meaning.specs.Subqueries.{multiples}
use Rattle.pr_eval.specs.private.Times.{AreTimesWithin, multiples_until, steps_from}

-- a multiple is after a moment where it is none of those until then
steps_below : (step a k : ℕ) → 0 < step → k < a / step + 1 → k * step ≤ a
steps_below step a k some h = (le-div_iff_mul-le {k = step} {x = k} {y = a} some).0 (omega arith)

steps_above : (step a k : ℕ) → 0 < step → a / step + 1 ≤ k → a < k * step
steps_above step a k some h = by (nat_lt a (k * step)) refl where
  by : (b : Bool) → nat_lt a (k * step) ≡ b → a < k * step
  by true e = ltb-true a (k * step) e
  by false e = let few : k ≤ a / step = (le-div_iff_mul-le {k = step} {x = k} {y = a} some).1 (ltb-false a (k * step) e) in absurd (omega arith)

until_not_after : (step : ℕ) (x : ℤ) (k : ℕ) → 0 < step → k < multiples_until step x → is_after x (k * step) ≡ false
until_not_after step (pos a) k some h = le-ltb a (k * step) (steps_below step a k some h)
until_not_after step (negsuc a) k some h = absurd (omega arith)

from_after : (step : ℕ) (x : ℤ) (k : ℕ) → 0 < step → multiples_until step x ≤ k → is_after x (k * step) ≡ true
from_after step (pos a) k some h = lt-ltb a (k * step) (steps_above step a k some h)
from_after step (negsuc a) k some h = refl

-- what is after a moment of the multiples
all_after : (step : ℕ) (x : ℤ) (i n : ℕ) → 0 < step → multiples_until step x ≤ i → filter (is_after x) (steps_from step i n) ≡ steps_from step i n
all_after step x i zero some h = refl
all_after step x i (suc n) some h =
    ap (λ b. cond b (i * step ∷ filter (is_after x) (steps_from step (i + 1) n)) (filter (is_after x) (steps_from step (i + 1) n))) (from_after step x i some h)
    ∙ ap (λ l. i * step ∷ l) (all_after step x (i + 1) n some (omega arith))

later : (step : ℕ) (x : ℤ) (i n : ℕ) → 0 < step → i ≤ multiples_until step x → filter (is_after x) (steps_from step i n) ≡ steps_from step (multiples_until step x) ((i + n) - multiples_until step x)
later step x i zero some h = let none : (i + 0) - multiples_until step x ≡ 0 = omega arith in sym (ap (steps_from step (multiples_until step x)) none)
later step x i (suc n) some h = by (nat_lt i (multiples_until step x)) refl (λ more. later step x (i + 1) n some more) where
  by : (b : Bool) → nat_lt i (multiples_until step x) ≡ b
      → (i + 1 ≤ multiples_until step x → filter (is_after x) (steps_from step (i + 1) n) ≡ steps_from step (multiples_until step x) (((i + 1) + n) - multiples_until step x))
      → filter (is_after x) (steps_from step i (suc n)) ≡ steps_from step (multiples_until step x) ((i + suc n) - multiples_until step x)
  by true e more =
      let below : i < multiples_until step x = ltb-true i (multiples_until step x) e in
      let same : ((i + 1) + n) - multiples_until step x ≡ (i + suc n) - multiples_until step x = omega arith in
      ap (λ b. cond b (i * step ∷ filter (is_after x) (steps_from step (i + 1) n)) (filter (is_after x) (steps_from step (i + 1) n))) (until_not_after step x i some below)
      ∙ more (omega arith) ∙ ap (steps_from step (multiples_until step x)) same
  by false e more =
      let from : multiples_until step x ≤ i = ltb-false i (multiples_until step x) e in
      let here : i ≡ multiples_until step x = omega arith in
      let size : suc n ≡ (i + suc n) - multiples_until step x = omega arith in
      all_after step x i (suc n) some from ∙ (λ j. steps_from step (here j) (size j))

pub multiples_are : (step : ℕ) (a b : ℤ) → 0 < step → multiples step a b ≡ steps_from step (multiples_until step a) (multiples_until step b - multiples_until step a)
multiples_are step a (pos b) some =
    let whole : (0 + (b / step + 1)) - multiples_until step a ≡ multiples_until step (pos b) - multiples_until step a = omega arith in
    later step a 0 (b / step + 1) some (omega arith) ∙ ap (steps_from step (multiples_until step a)) whole
multiples_are step a (negsuc b) some = let none : 0 - multiples_until step a ≡ 0 = omega arith in sym (ap (steps_from step (multiples_until step a)) none)

-- counted times, and the one with a number
pub counted : (step first count : ℕ) → length (steps_from step first count) ≡ count
counted step first count = length-map-range_with_len (λ (k : ℕ). k * step) first count

pub numbered : (step first count i : ℕ) → i < count → slice_get (steps_from step first count) i ≡ Some ((first + i) * step)
numbered step first count i h =
    slice_get-get_or (steps_from step first count) i 0 (subst (λ n. i < n) (sym (counted step first count)) h)
    ∙ ap Some (get_or-map-range_with_len (λ (k : ℕ). k * step) first count i (first + i) 0 h refl)

-- times in a range
pub steps_within : (step first count : ℕ) (from to : ℤ) → 0 < step → from <ℤ pos (first * step) → (0 < count → pos (((first + count) - 1) * step) ≤ℤ to) → AreTimesWithin from to (steps_from step first count)
steps_within step first zero from to some low high = tt
steps_within step first (suc n) from to some low high =
    let more : first * step < (first + 1) * step = omega arith in
    let last : first ≤ (first + suc n) - 1 = omega arith in
    let up : first * step ≤ ((first + suc n) - 1) * step = omega (arith, mul-le-mul_left step last) in
    let top : pos (((first + suc n) - 1) * step) ≤ℤ to = high (omega arith) in
    let same : ((first + 1) + n) - 1 ≡ (first + suc n) - 1 = omega arith in
    (low, omega (arith, ints), steps_within step (first + 1) n (pos (first * step)) to some (omega (arith, ints)) (λ h. subst (λ k. pos (k * step) ≤ℤ to) (sym same) top))

-- a counted time is small
pub time_small : (step first count number : ℕ) → 0 < step → (first + count) * step < 2 ^ 42 + step → number < count → (first + number) * step < 2 ^ 42
time_small step first count number some small within =
    let more : (first + number) + 1 ≤ first + count = omega arith in
    let product = mul-le-mul_left step more in
    omega (arith, product)

pub sum_small : (step first count number : ℕ) → 0 < step → (first + count) * step < 2 ^ 42 + step → number < count → first + number < 2 ^ 42
sum_small step first count number some small within =
    let one : 1 ≤ step = omega arith in
    let product = mul-le-mul_left (first + number) one in
    omega (arith, product, time_small step first count number some small within)

-- the multiples of a step in a range
pub until_small : (step : ℕ) (x : ℤ) → 0 < step → x <ℤ pos (2 ^ 42) → multiples_until step x * step < 2 ^ 42 + step
until_small step (pos b) some h = omega (arith, ints, div-mul-le_self b step)
until_small step (negsuc b) some h = omega arith

first_after : (step : ℕ) (x : ℤ) → 0 < step → x <ℤ pos (multiples_until step x * step)
first_after step (pos a) some = let above = steps_above step a (a / step + 1) some (omega arith) in omega (arith, ints)
first_after step (negsuc a) some = omega (arith, ints)

last_until : (step : ℕ) (x : ℤ) (n : ℕ) → 0 < n → n ≡ multiples_until step x → pos ((n - 1) * step) ≤ℤ x
last_until step (pos b) n some h = let same : n - 1 ≡ b / step = omega arith in subst (λ k. pos (k * step) ≤ℤ pos b) (sym same) (omega (arith, ints, div-mul-le_self b step))
last_until step (negsuc b) n some h = absurd (omega arith)

pub multiples_within : (step : ℕ) (from to : ℤ) → 0 < step → AreTimesWithin from to (multiples step from to)
multiples_within step from to some =
    subst (AreTimesWithin from to) (sym (multiples_are step from to some))
    (steps_within step (multiples_until step from) (multiples_until step to - multiples_until step from) from to some (first_after step from some)
    (λ more. last_until step to (multiples_until step from + (multiples_until step to - multiples_until step from)) (omega arith) (omega arith)))

pub none_between : (step : ℕ) (from to : ℤ) → 0 < step → multiples_until step to ≤ multiples_until step from → [] ≡ multiples step from to
none_between step from to some h =
    let none : multiples_until step to - multiples_until step from ≡ 0 = omega arith in
    sym (multiples_are step from to some ∙ ap (steps_from step (multiples_until step from)) none)

-- as they are counted
pub times_are : (s step first end : ℕ) (from to : ℤ) → 0 < step → s ≡ step → first ≡ multiples_until s from → end ≡ multiples_until s to → steps_from s first (end - first) ≡ multiples step from to
times_are s step first end from to some same begins ends =
    (λ i. steps_from s (begins i) (ends i - begins i)) ∙ (λ i. steps_from (same i) (multiples_until (same i) from) (multiples_until (same i) to - multiples_until (same i) from))
    ∙ sym (multiples_are step from to some)

pub times_small : (s first end : ℕ) (to : ℤ) → 0 < s → end ≡ multiples_until s to → first < end → to <ℤ pos (2 ^ 42) → (first + (end - first)) * s < 2 ^ 42 + s
times_small s first end to some is before high =
    let whole : first + (end - first) ≡ multiples_until s to = omega arith in
    subst (λ n. n * s < 2 ^ 42 + s) (sym whole) (until_small s to some high)

pub times_none : (s step first end : ℕ) (from to : ℤ) → 0 < step → s ≡ step → first ≡ multiples_until s from → end ≡ multiples_until s to → end ≤ first → [] ≡ multiples step from to
times_none s step first end from to some same begins ends before =
    let none : end - first ≡ 0 = omega arith in
    sym (ap (steps_from s first) none) ∙ times_are s step first end from to some same begins ends
