-- Times that are not all one are spread: n times the sum of their squares is above the square of
-- their sum.
use Rattle.std.proofs.Common.{◌≡◌, ℕ, zero, suc, ◌+◌, ◌*◌, ◌<◌, ◌≤◌, List, [], ◌∷◌, length, sym, ap, subst, ◌∙◌, arith}
use Rattle.std.specs.List.{sum_by}
use Rattle.std.proofs.Math.Nat.{mul-le-mul_left}
use Rattle.pr_head.specs.spec_history.declared.spot.Spot.{Spot}
use Rattle.spec_vectors.specs.Spots.{last_of}
use Rattle.spec_vectors.specs.Regression.{count, sum_x, sum_xx, time_from}
use Rattle.pr_range.proofs.Sums.{itself, sum_cons}

two_squares : (a b : ℕ) → 2 * (a * b) ≤ a * a + b * b
two_squares zero b = omega arith
two_squares (suc a) zero = omega arith
two_squares (suc a) (suc b) = omega (arith, two_squares a b)

abbrev square : (Spot → ℕ) → Spot → ℕ
square f s = f s * f s

cross : (f : Spot → ℕ) (a : ℕ) (xs : List Spot) → 2 * (a * sum_by f xs) ≤ length xs * (a * a) + sum_by (square f) xs
cross f a [] = omega arith
cross f a (x ∷ xs) =
    let more = cross f a xs in
    let two = two_squares a (f x) in
    let all : a * sum_by f (x ∷ xs) ≡ a * f x + a * sum_by f xs = ap (λ n. a * n) (sum_cons f x xs) ∙ omega arith in
    let squared = sum_cons (square f) x xs in
    omega arith

cauchy : (f : Spot → ℕ) (xs : List Spot) → sum_by f xs * sum_by f xs ≤ length xs * sum_by (square f) xs
cauchy f [] = omega arith
cauchy f (x ∷ xs) =
    let more = cauchy f xs in
    let mixed = cross f (f x) xs in
    let left : sum_by f (x ∷ xs) * sum_by f (x ∷ xs) ≡ (f x + sum_by f xs) * (f x + sum_by f xs) = ap (λ n. n * n) (sum_cons f x xs) in
    let right : length (x ∷ xs) * sum_by (square f) (x ∷ xs) ≡ suc (length xs) * (f x * f x + sum_by (square f) xs) = ap (λ n. suc (length xs) * n) (sum_cons (square f) x xs) in
    omega arith

last_counts : (f : Spot → ℕ) (x : Spot) (xs : List Spot) → f (last_of x xs) ≤ sum_by f (x ∷ xs)
last_counts f x [] = omega (arith, sum_cons f x [])
last_counts f x (y ∷ ys) = omega (arith, last_counts f y ys, sum_cons f x (y ∷ ys))

pub spread : (first : Spot) (rest : List Spot) → first.time < (last_of first rest).time → sum_x first rest * sum_x first rest < count rest * sum_xx first rest
spread first rest rising =
    let f = time_from first in
    let at_first = itself first in
    let x_is : sum_x first rest ≡ sum_by f rest = sum_cons f first rest ∙ ap (λ n. n + sum_by f rest) at_first ∙ none (sum_by f rest) in
    let xx_is : sum_xx first rest ≡ sum_by (square f) rest = sum_cons (square f) first rest ∙ ap (λ n. n * n + sum_by (square f) rest) at_first ∙ none (sum_by (square f) rest) in
    let bound : sum_x first rest * sum_x first rest ≤ length rest * sum_xx first rest =
    subst (λ n. n * n ≤ length rest * sum_xx first rest) (sym x_is) (subst (λ n. sum_by f rest * sum_by f rest ≤ length rest * n) (sym xx_is) (cauchy f rest)) in
    let last = last_counts (square f) first rest in
    let one : 1 ≤ f (last_of first rest) = omega arith in
    let some : 1 * 1 ≤ f (last_of first rest) * f (last_of first rest) = squared (f (last_of first rest)) one in
    omega arith where
      none : (n : ℕ) → 0 + n ≡ n
      none n = omega arith

      squared : (n : ℕ) → 1 ≤ n → 1 * 1 ≤ n * n
      squared n h = let more : n * 1 ≤ n * n = mul-le-mul_left n h in omega arith
