-- The floor of a fraction is the greatest whole number that is not above it.
use Rattle.std.proofs.Common.{◌≡◌, ℕ, zero, suc, ◌+◌, ◌-◌, ◌*◌, ◌/◌, ◌%◌, ◌<◌, ℤ, pos, negsuc, neg_ℤ, ◌*ℤ◌, ◌-ℤ◌, unsigned_abs, refl, arith}
use Rattle.std.proofs.lemmas.Int.{ints}
use Rattle.std.proofs.lemmas.Nat.{div-add-mod', mod_below}
use Rattle.pr_num.proofs.HalfLawZ.{apart_zero, gap_product, less}
use Rattle.pr_num.specs.Multiples.{IsFloor, floor_quotient}

neg-mul : (k d : ℕ) → neg_ℤ (pos k) *ℤ pos d ≡ neg_ℤ (pos (k * d))
neg-mul zero d = omega (arith, ints)
neg-mul (suc k) d = refl

-- rounded down
floor-pos : (n d : ℕ) → 0 < d → IsFloor (pos n) (pos d) (pos (n / d))
floor-pos n d h =
    let e = div-add-mod' n d in
    let r : n % d < d = mod_below n d h in
    (omega (arith, ints, e, r), omega (arith, ints, e, r))

-- minus a number rounded up
floor-neg : (n d : ℕ) → 0 < d → IsFloor (neg_ℤ (pos n)) (pos d) (neg_ℤ (pos ((n + (d - 1)) / d)))
floor-neg n d h =
    let e = div-add-mod' (n + (d - 1)) d in
    let r : (n + (d - 1)) % d < d = mod_below (n + (d - 1)) d h in
    let m = neg-mul ((n + (d - 1)) / d) d in
    (omega (arith, ints, e, r, m), omega (arith, ints, e, r, m))

pub floor_is : (p q : ℤ) → 0 < unsigned_abs q → IsFloor p q (floor_quotient p q)
unfolding floor_quotient
floor_is (pos n) (pos d) h = floor-pos n d h
floor_is (negsuc n) (pos d) h = floor-neg (suc n) d h
floor_is (pos n) (negsuc d) h = floor-neg n (suc d) h
floor_is (negsuc n) (negsuc d) h = floor-pos (suc n) (suc d) h

-- two whole numbers with the same multiples below and above
between_one : (p n m : ℤ) (d : ℕ) → 0 < d → IsFloor p (pos d) n → IsFloor p (pos d) m → n ≡ m
between_one p n m d h f g =
    let gap = gap_product n m (pos d) in
    let near : unsigned_abs (n -ℤ m) * d < d = omega (arith, ints, gap, f.0, f.1, g.0, g.1) in
    apart_zero n m (less (unsigned_abs (n -ℤ m)) d near)

pub floor_only : (p q n : ℤ) → 0 < unsigned_abs q → IsFloor p q n → n ≡ floor_quotient p q
floor_only p (pos d) n h f = between_one p n (floor_quotient p (pos d)) d h f (floor_is p (pos d) h)
floor_only p (negsuc d) n h f = between_one (neg_ℤ p) n (floor_quotient p (negsuc d)) (suc d) h f (floor_is p (negsuc d) h)
