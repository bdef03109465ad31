-- Sums over values, one value after another.
use Rattle.std.proofs.Common.{◌≡◌, ℕ, ◌+◌, ◌*◌, ◌<◌, ◌≤◌, ℤ, pos, ◌+ℤ◌, ◌*ℤ◌, List, [], ◌∷◌, ◌++◌, length, map, take, get_or, sym, ap, ◌∙◌, arith, unsigned_abs}
use Rattle.std.specs.List.{sum_by}
use Rattle.std.proofs.lemmas.List.{take_more, map-append}
use Rattle.std.proofs.lemmas.List.Sums.{sum_by-append, sum_by_more, sum_by-take-le}
use Rattle.std.proofs.lemmas.Int.{ints}
use Rattle.pr_head.specs.spec_history.declared.spot.Spot.{Spot}
use Rattle.spec_vectors.specs.Regression.{sum_abs_xy, sum_abs_y, sum_of_units, sum_x, sum_xx, sum_xy, sum_y, time_from, units_from}

pub sum_cons : (f : Spot → ℕ) (x : Spot) (xs : List Spot) → sum_by f (x ∷ xs) ≡ f x + sum_by f xs
sum_cons f x xs = omega (arith, sum_by-append f (x ∷ []) xs)

sum_next : (f : Spot → ℕ) (x : Spot) (xs : List Spot) (i : ℕ) (d : Spot) → i < length xs → sum_by f (x ∷ take i xs) + f (get_or xs i d) ≡ sum_by f (x ∷ take (i + 1) xs)
sum_next f x xs i d h = omega (arith, sum_cons f x (take i xs), sum_cons f x (take (i + 1) xs), sum_by_more f xs i d h)

pub itself : (first : Spot) → time_from first first ≡ 0
itself first = omega arith

sum_first : (f : Spot → ℕ) (x : Spot) → f x ≡ 0 → sum_by f (x ∷ []) ≡ 0
sum_first f x h = omega (arith, sum_cons f x [], h)

pub sum_x_more : (first : Spot) (xs : List Spot) (i : ℕ) (d : Spot) → i < length xs → sum_x first (take i xs) + time_from first (get_or xs i d) ≡ sum_x first (take (i + 1) xs)
sum_x_more first xs i d h = sum_next (time_from first) first xs i d h

pub sum_x_none : (first : Spot) → sum_x first [] ≡ 0
sum_x_none first = sum_first (time_from first) first (itself first)

pub sum_xx_more : (first : Spot) (xs : List Spot) (i : ℕ) (d : Spot) → i < length xs → sum_xx first (take i xs) + time_from first (get_or xs i d) * time_from first (get_or xs i d) ≡ sum_xx first (take (i + 1) xs)
sum_xx_more first xs i d h = sum_next (λ s. time_from first s * time_from first s) first xs i d h

pub sum_xx_none : (first : Spot) → sum_xx first [] ≡ 0
sum_xx_none first = sum_first (λ s. time_from first s * time_from first s) first (ap (λ n. n * n) (itself first))

pub sum_abs_y_more : (first : Spot) (xs : List Spot) (i : ℕ) (d : Spot) → i < length xs → sum_abs_y first (take i xs) + unsigned_abs (units_from first (get_or xs i d)) ≡ sum_abs_y first (take (i + 1) xs)
sum_abs_y_more first xs i d h = sum_next (λ s. unsigned_abs (units_from first s)) first xs i d h

no_units : (first : Spot) → units_from first first ≡ pos 0
no_units first = omega (arith, ints)

pub sum_abs_y_none : (first : Spot) → sum_abs_y first [] ≡ 0
sum_abs_y_none first = sum_first (λ s. unsigned_abs (units_from first s)) first (ap unsigned_abs (no_units first))

pub sum_abs_xy_more : (first : Spot) (xs : List Spot) (i : ℕ) (d : Spot) → i < length xs
    → sum_abs_xy first (take i xs) + time_from first (get_or xs i d) * unsigned_abs (units_from first (get_or xs i d)) ≡ sum_abs_xy first (take (i + 1) xs)
sum_abs_xy_more first xs i d h = sum_next (λ s. time_from first s * unsigned_abs (units_from first s)) first xs i d h

pub sum_abs_xy_none : (first : Spot) → sum_abs_xy first [] ≡ 0
sum_abs_xy_none first = sum_first (λ s. time_from first s * unsigned_abs (units_from first s)) first (ap (λ n. n * unsigned_abs (units_from first first)) (itself first) ∙ omega arith)

pub sum_abs_xy_front : (first : Spot) (xs : List Spot) (i : ℕ) → sum_abs_xy first (take i xs) ≤ sum_abs_xy first xs
sum_abs_xy_front first xs i =
    let f : Spot → ℕ = λ s. time_from first s * unsigned_abs (units_from first s) in
    omega (arith, sum_cons f first (take i xs), sum_cons f first xs, sum_by-take-le f xs i)

units_end : (zs : List ℤ) (z : ℤ) → sum_of_units (zs ++ z ∷ []) ≡ sum_of_units zs +ℤ z
units_end [] z = omega (arith, ints)
units_end (y ∷ zs) z = ap (λ s. y +ℤ s) (units_end zs z) ∙ omega (arith, ints)

units_next : (f : Spot → ℤ) (x : Spot) (xs : List Spot) (i : ℕ) (d : Spot) → i < length xs
    → sum_of_units (map f (x ∷ take i xs)) +ℤ f (get_or xs i d) ≡ sum_of_units (map f (x ∷ take (i + 1) xs))
units_next f x xs i d h =
    sym (units_end (map f (x ∷ take i xs)) (f (get_or xs i d))) ∙ ap sum_of_units (sym (map-append f (x ∷ take i xs) (get_or xs i d ∷ []))) ∙ ap (λ l. sum_of_units (map f (x ∷ l))) (sym (take_more xs i d h))

pub sum_y_more : (first : Spot) (xs : List Spot) (i : ℕ) (d : Spot) → i < length xs → sum_y first (take i xs) +ℤ units_from first (get_or xs i d) ≡ sum_y first (take (i + 1) xs)
sum_y_more first xs i d h = units_next (units_from first) first xs i d h

pub sum_y_none : (first : Spot) → sum_y first [] ≡ pos 0
sum_y_none first = ap (λ z. z +ℤ pos 0) (no_units first)

pub sum_xy_more : (first : Spot) (xs : List Spot) (i : ℕ) (d : Spot) → i < length xs
    → sum_xy first (take i xs) +ℤ pos (time_from first (get_or xs i d)) *ℤ units_from first (get_or xs i d) ≡ sum_xy first (take (i + 1) xs)
sum_xy_more first xs i d h = units_next (λ s. pos (time_from first s) *ℤ units_from first s) first xs i d h

pub sum_xy_none : (first : Spot) → sum_xy first [] ≡ pos 0
sum_xy_none first = (λ i. pos (itself first i) *ℤ no_units first i +ℤ pos 0)
