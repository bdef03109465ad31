-- Places among samples whose times rise.
use Rattle.std.proofs.Common.{◌≡◌, ◌≢◌, ◌+◌, ◌-◌, ℕ, zero, suc, ℤ, pos, negsuc, ◌≤◌, ◌<◌, Bool, true, false, not, cond, List, Option, [], ◌∷◌, length, find, reverse, slice_get, get_or, Some, None, refl, sym, ap, ◌∙◌, arith}
use Rattle.std.specs.List.{position_or_len, AllWithin}
use Rattle.std.specs.List.Sorted.{IsNonDecreasingBy, IsPartitionedBy, IsPartitionPoint}
use Rattle.std.specs.Option.{option_or}
use Rattle.std.proofs.lemmas.List.{reverse-append}
use Rattle.std.proofs.lemmas.List.Folds.{find-append}
use Rattle.std.proofs.lemmas.List.Sorted.{IsPartitionedBy-leb}
use Rattle.std.proofs.lemmas.List.Sums.{position_or_len_is}
use Rattle.std.proofs.lemmas.Grind.{common_steps}
use Rattle.spec_history.specs.Lookback.{is_after, is_until}
use Rattle.pr_head.specs.declared.timed.Timed.{Timed}
use Rattle.pr_head.specs.private.Stored.{held_before, is_there_until}

-- the samples until a time come before the others
pub until_parted : (time : ℤ) (xs : List Timed) → IsNonDecreasingBy (λ x. x.time) xs → IsPartitionedBy (λ x. is_until time x.time) xs
until_parted (pos t) xs rising = IsPartitionedBy-leb (λ x. x.time) xs t rising
until_parted (negsuc t) xs rising = λ i j d h k e. e

-- what is not until a time is after it
after_not_until : (time : ℤ) (at : ℕ) → is_until time at ≡ true → is_after time at ≡ false
after_not_until (pos t) at h = grind (arith, common_steps)
after_not_until (negsuc t) at h = cc

after_else : (time : ℤ) (at : ℕ) → is_until time at ≡ false → is_after time at ≡ true
after_else (pos t) at h = grind (arith, common_steps)
after_else (negsuc t) at h = refl

-- so the place where they are parted is that of the first sample after the time
pub parted_place : (time : ℤ) (xs : List Timed) (i : ℕ) → i ≤ length xs → IsPartitionPoint (λ x. is_until time x.time ≡ true) (λ x. is_until time x.time ≡ false) xs i
    → position_or_len (λ x. is_after time x.time) xs ≡ i
parted_place time xs i within point = by xs refl where
  by : (ys : List Timed) → xs ≡ ys → position_or_len (λ x. is_after time x.time) xs ≡ i
  by [] e = ap (position_or_len (λ x. is_after time x.time)) e ∙ omega (arith, ap length e)
  by (y ∷ ys) e = position_or_len_is (λ x. is_after time x.time) xs i y within
      (λ k below. after_not_until time _ (point.0 k y (omega arith) below))
      (λ below. after_else time _ (point.1 i y (omega arith) below))

-- where none passes, none is found from the end
none_passes : (p : Timed → Bool) (xs : List Timed) → AllWithin (λ x. p x ≡ false) xs 0 (length xs) → find p (reverse xs) ≡ None
none_passes p [] h = refl
none_passes p (x ∷ xs) h =
    ap (find p) (reverse-append (x ∷ []) xs) ∙ find-append p (reverse xs) (x ∷ [])
    ∙ (λ i. option_or (none_passes p xs (λ k d low below. h (suc k) d (omega arith) (omega arith)) i) (cond (h 0 x (omega arith) (omega arith) i) (Some x) None))

some_at : (xs : List Timed) (n : ℕ) (x : Timed) → n < length xs → option_or (slice_get xs n) (Some x) ≡ slice_get xs n
some_at [] n x h = absurd (omega arith)
some_at (y ∷ xs) zero x h = refl
some_at (y ∷ xs) (suc n) x h = some_at xs n x (omega arith)

-- where those that pass come first, the last of them stands before the place at which they end
pub last_passing : (p : Timed → Bool) (xs : List Timed) (n : ℕ) → n ≤ length xs → IsPartitionPoint (λ x. p x ≡ true) (λ x. p x ≡ false) xs n
    → find p (reverse xs) ≡ held_before xs n
last_passing p xs zero h parted = none_passes p xs parted.1
last_passing p [] (suc n) h parted = absurd (omega arith)
last_passing p (x ∷ xs) (suc n) h parted =
    let rest = last_passing p xs n (omega arith) (λ k d low below. parted.0 (suc k) d (omega arith) (omega arith), λ k d low below. parted.1 (suc k) d (omega arith) (omega arith)) in
    ap (find p) (reverse-append (x ∷ []) xs) ∙ find-append p (reverse xs) (x ∷ [])
    ∙ (λ i. option_or (rest i) (cond (parted.0 0 x (omega arith) (omega arith) i) (Some x) None)) ∙ by n h where
      by : (n : ℕ) → suc n ≤ length (x ∷ xs) → option_or (held_before xs n) (Some x) ≡ held_before (x ∷ xs) (suc n)
      by zero h = refl
      by (suc n) h = some_at xs n x (omega arith)

pub before_at : (held : List Timed) (n : ℕ) → n ≢ 0 → slice_get held (n - 1) ≡ held_before held n
before_at held zero h = absurd (h refl)
before_at held (suc n) h = let same : suc n - 1 ≡ n = omega arith in ap (slice_get held) same

-- A place is that of the first sample above a time where none stands there that is at or before it,
-- and where it is not the first place, one that is stands right before it.
until_down : (time : ℤ) (a b : ℕ) → a ≤ b → is_until time b ≡ true → is_until time a ≡ true
until_down (pos t) a b low h = grind (arith, common_steps)
until_down (negsuc t) a b low h = cc

not_until_up : (time : ℤ) (a b : ℕ) → a ≤ b → is_until time a ≡ false → is_until time b ≡ false
not_until_up (pos t) a b low h = grind (arith, common_steps)
not_until_up (negsuc t) a b low h = refl

there : (time : ℤ) (xs : List Timed) (i : ℕ) (d : Timed) → i < length xs → is_there_until time (slice_get xs i) ≡ is_until time (get_or xs i d).time
there time [] i d h = absurd (omega arith)
there time (x ∷ xs) zero d h = refl
there time (x ∷ xs) (suc i) d h = there time xs i d (omega arith)

there_within : (time : ℤ) (xs : List Timed) (i : ℕ) → is_there_until time (slice_get xs i) ≡ true → i < length xs
there_within time [] i h = cc
there_within time (x ∷ xs) zero h = omega arith
there_within time (x ∷ xs) (suc i) h = omega (arith, there_within time xs i h)

pub place_is : (time : ℤ) (xs : List Timed) (i : ℕ) → IsNonDecreasingBy (λ x. x.time) xs → i ≤ length xs → is_there_until time (slice_get xs i) ≡ false → (i ≢ 0 → is_there_until time (slice_get xs (i - 1)) ≡ true)
    → position_or_len (λ x. is_after time x.time) xs ≡ i
place_is time xs i rising within here before = parted_place time xs i within (
  λ k d low below. until_down time _ _ (rising k (i - 1) d (omega arith) (omega arith)) (sym (there time xs (i - 1) d (omega arith)) ∙ before (not_zero i k below)),
  λ k d low below. not_until_up time _ _ (rising i k d low below) (sym (there time xs i d (omega arith)) ∙ here),
) where
  not_zero : (i k : ℕ) → k < i → i ≢ 0
  not_zero zero k below = absurd (omega arith)
  not_zero (suc i) k below = λ e. cc

-- where the last sample is at or before a time, it is the newest one
some_or : (xs : List Timed) (n : ℕ) (o : Option Timed) → n < length xs → option_or (slice_get xs n) o ≡ slice_get xs n
some_or [] n o h = absurd (omega arith)
some_or (y ∷ xs) zero o h = refl
some_or (y ∷ xs) (suc n) o h = some_or xs n o (omega arith)

pub last_newest : (time : ℤ) (xs : List Timed) (n : ℕ) → length xs ≡ suc n → is_there_until time (slice_get xs n) ≡ true → find (λ x. is_until time x.time) (reverse xs) ≡ slice_get xs n
last_newest time [] n many h = cc
last_newest time (x ∷ []) zero many h = (λ i. cond (h i) (Some x) None)
last_newest time (x ∷ []) (suc n) many h = absurd (omega (arith, many))
last_newest time (x ∷ (y ∷ ys)) zero many h = absurd (omega (arith, many))
last_newest time (x ∷ (y ∷ ys)) (suc n) many h =
    ap (find (λ s. is_until time s.time)) (reverse-append (x ∷ []) (y ∷ ys)) ∙ find-append (λ s. is_until time s.time) (reverse (y ∷ ys)) (x ∷ [])
    ∙ (λ i. option_or (last_newest time (y ∷ ys) n (omega (arith, many)) h i) (find (λ s. is_until time s.time) (x ∷ []))) ∙ some_or (y ∷ ys) n (find (λ s. is_until time s.time) (x ∷ [])) (omega (arith, many))

-- a place without a sample, or with one after the time, is not before the first one after it
pub place_at_most : (time : ℤ) (xs : List Timed) (i : ℕ) → is_there_until time (slice_get xs i) ≡ false → position_or_len (λ x. is_after time x.time) xs ≤ i
place_at_most time [] i h = omega arith
place_at_most time (x ∷ xs) zero h = rw (after_else time x.time h) (omega arith)
place_at_most time (x ∷ xs) (suc i) h = behind (is_after time x.time) (place_at_most time xs i h) where
  behind : {n : ℕ} (b : Bool) → n ≤ i → cond (not b) (1 + n) 0 ≤ suc i
  behind true low = omega arith
  behind false low = omega arith

-- where times rise, a place with a sample until the time is before the first one after it
pub place_above : (time : ℤ) (xs : List Timed) (i : ℕ) → IsNonDecreasingBy (λ x. x.time) xs → is_there_until time (slice_get xs i) ≡ true → i < position_or_len (λ x. is_after time x.time) xs
place_above time [] i rising h = cc
place_above time (x ∷ xs) zero rising h = rw (after_not_until time x.time h) (omega arith)
place_above time (x ∷ xs) (suc i) rising h =
    let within : i < length xs = there_within time xs i h in
    let until : is_until time x.time ≡ true = until_down time _ _ (rising 0 (suc i) x (omega arith) (omega arith)) (sym (there time xs i x within) ∙ h) in
    let rest = place_above time xs i (λ k j d low below. rising (suc k) (suc j) d (omega arith) (omega arith)) h in
    rw (after_not_until time x.time until) (omega (arith, rest))
