-- Rounding of a signed fraction, from its sign and its magnitude.
use Rattle.std.proofs.Common.{◌+◌, ◌%◌, inl, inr, ◌≤◌, ◌≡◌, ℕ, zero, suc, ◌*◌, ◌/◌, ◌^◌, ◌<◌, ℤ, pos, negsuc, neg_ℤ, ◌*ℤ◌, unsigned_abs, refl, arith, Bool, true, false, ap, ◌∙◌, lit<, nat_lt, Err}
use Rattle.std.proofs.lemmas.Int.{unsigned_abs-mul}
use Rattle.std.specs.Ordering.{nat_cmp, int_cmp}
use Rattle.std.specs.declared.cmp.Ordering.TheVariants.{Less, Greater}
use Rattle.pr_num.specs.Arithmetic.{fitted, too_wide}
use Rattle.pr_num.proofs.Rounding.{half_abs-ge}
use Rattle.std.proofs.Math.Nat.{le-div_iff_mul-le, mul-le-mul_right, le_of_mul-le-mul_right}
use Rattle.std.proofs.lemmas.Nat.{div-add-mod', mod_below}
use Rattle.std.proofs.lemmas.Bool.{cases_lt}
use Rattle.pr_num.specs.Half.{half, half_abs, round_by_rest, signed, apart, below_zero}

pub half_abs-zero : (d : ℕ) → 0 < d → half_abs 0 d ≡ 0
unfolding half_abs
half_abs-zero d h = grind arith

pub half-neg_pos : (x d : ℕ) → 0 < d → half (neg_ℤ (pos x)) (pos d) ≡ neg_ℤ (pos (half_abs x d))
unfolding half
half-neg_pos zero d h = rw (half_abs-zero d h) refl
half-neg_pos (suc x) d h = refl

pub half-neg_neg : (x d : ℕ) → half (neg_ℤ (pos x)) (negsuc d) ≡ pos (half_abs x (suc d))
unfolding half
half-neg_neg zero d = let p : 0 < suc d = omega arith in rw (half_abs-zero (suc d) p) refl
half-neg_neg (suc x) d = refl

pub half-product : (a b : ℤ) (d : ℕ) → 0 < d → half (a *ℤ b) (pos d) ≡ signed (apart a b) (half_abs (unsigned_abs a * unsigned_abs b) d)
unfolding half
half-product (pos m) (pos n) d h = refl
half-product (pos m) (negsuc n) d h = half-neg_pos (m * suc n) d h
half-product (negsuc m) (pos n) d h = half-neg_pos (suc m * n) d h
half-product (negsuc m) (negsuc n) d h = refl

pub half-quotient : (a b : ℤ) (k : ℕ) → 0 < unsigned_abs b → half (a *ℤ pos k) b ≡ signed (apart a b) (half_abs (unsigned_abs a * k) (unsigned_abs b))
unfolding half
half-quotient (pos m) (pos n) k h = refl
half-quotient (pos m) (negsuc n) k h = refl
half-quotient (negsuc m) (pos n) k h = half-neg_pos (suc m * k) n h
half-quotient (negsuc m) (negsuc n) k h = half-neg_neg (suc m * k) n

pub half-scaled : (a : ℤ) (b c : ℕ) → 0 < c → half (a *ℤ pos b) (pos c) ≡ signed (below_zero a) (half_abs (unsigned_abs a * b) c)
unfolding half
half-scaled (pos m) b c h = refl
half-scaled (negsuc m) b c h = half-neg_pos (suc m * b) c h

pub half_sum : (z : ℤ) (d : ℕ) → half z (pos d) ≡ signed (below_zero z) (half_abs (unsigned_abs z) d)
unfolding half
half_sum (pos m) d = refl
half_sum (negsuc m) d = refl

pub abs_product : (a : ℤ) (w m : ℕ) → unsigned_abs a ≤ m → unsigned_abs (a *ℤ pos w) ≤ m * w
abs_product a w m h = let e = unsigned_abs-mul a (pos w) in let l : unsigned_abs a * w ≤ m * w = mul-le-mul_right w h in omega (arith, e, l)

-- a magnitude that is too wide is so with either sign
pub signed_wide : (negative : Bool) (m : ℕ) → 10 ^ 29 ≤ m → fitted (signed negative m) ≡ Err too_wide
signed_wide true zero h = absurd (omega arith)
signed_wide true (suc m) h = let f : nat_lt (suc m) (10 ^ 29) ≡ false = grind arith in rw f refl
signed_wide false m h = let f : nat_lt m (10 ^ 29) ≡ false = grind arith in rw f refl

-- the quotient is at most the rounded fraction
pub half_abs-above : (n d m : ℕ) → 0 < d → m * d ≤ n → m ≤ half_abs n d
half_abs-above n d m h le = let q : m ≤ n / d = (le-div_iff_mul-le h).1 le in omega (arith, half_abs-ge n d, q)

pub product_fits : (a b : ℤ) → fitted (half (a *ℤ b) (pos (10 ^ 9))) ≡ fitted (signed (apart a b) (half_abs (unsigned_abs a * unsigned_abs b) (10 ^ 9)))
product_fits a b = ap fitted (half-product a b (10 ^ 9) (lit< tt))

pub product_wide : (a b : ℤ) → 10 ^ 38 ≤ unsigned_abs a * unsigned_abs b → fitted (half (a *ℤ b) (pos (10 ^ 9))) ≡ Err too_wide
product_wide a b h =
    product_fits a b ∙ signed_wide (apart a b) (half_abs (unsigned_abs a * unsigned_abs b) (10 ^ 9)) (half_abs-above (unsigned_abs a * unsigned_abs b) (10 ^ 9) (10 ^ 29) (lit< tt) h)

-- a product, from its sign and its magnitude
pub product_signed : (a b : ℤ) → fitted (a *ℤ b) ≡ fitted (signed (apart a b) (unsigned_abs a * unsigned_abs b))
product_signed (pos m) (pos n) = refl
product_signed (pos m) (negsuc n) = refl
product_signed (negsuc m) (pos n) = refl
product_signed (negsuc m) (negsuc n) = refl

round-up : (q r d : ℕ) → round_by_rest q r d ≤ q + 1
round-up q r d = grind arith

round-whole : (q d : ℕ) → 0 < d → round_by_rest q 0 d ≡ q
round-whole q d h = grind arith

-- a fraction that is at most a whole number is not rounded above it
pub half_abs_below : (n d m : ℕ) → 0 < d → n ≤ m * d → half_abs n d ≤ m
unfolding half_abs
half_abs_below n d m h le =
    let e = div-add-mod' n d in
    let r : n % d < d = mod_below n d h in
    let up = round-up (n / d) (n % d) d in
    elim (cases_lt (n / d) m) [
      | inl lt ↦ omega (arith, up)
      | inr ge ↦
          let q : n / d * d ≡ n / d * d = refl in
          let p : m * d ≤ n / d * d = mul-le-mul_right d ge in
          let z : n % d ≡ 0 = omega (arith, e, p) in
          let w : round_by_rest (n / d) (n % d) d ≡ n / d = rw z (round-whole (n / d) d h) in
          let k : n / d ≤ m = le_of_mul-le-mul_right (let a : n / d * d ≤ m * d = omega (arith, e) in a) h in
          omega (arith, w, k)
    ]

-- the rounded quotient of a product, from signs and magnitudes
pub half_product_signed : (a b : ℤ) (c : ℕ) → 0 < c → half (a *ℤ b) (pos c) ≡ signed (apart a b) (half_abs (unsigned_abs a * unsigned_abs b) c)
half_product_signed a b c h = half-product a b c h

pub abs_signed : (negative : Bool) (m : ℕ) → unsigned_abs (signed negative m) ≡ m
abs_signed true zero = refl
abs_signed true (suc m) = refl
abs_signed false m = refl

-- a rounded quotient is at most as far from zero as its dividend
pub half_abs_small : (n d : ℕ) → 0 < d → half_abs n d ≤ n
half_abs_small n d h = half_abs_below n d n h (omega (arith, mul-le-mul_right n h))

-- what is 2^127 or more in magnitude is no value
pub muldiv_units_wide : (z : ℤ) → (unsigned_abs z < 2 ^ 127 → ⊥) → fitted z ≡ Err too_wide
muldiv_units_wide z h = let f : nat_lt (unsigned_abs z) (10 ^ 29) ≡ false = grind arith in rw f refl

-- how two numbers stand, from their signs and magnitudes
pub products_up : (a c : ℤ) (b d : ℕ) → below_zero (a *ℤ pos b) ≡ false → below_zero (c *ℤ pos d) ≡ false → nat_cmp (unsigned_abs a * b) (unsigned_abs c * d) ≡ int_cmp (a *ℤ pos b) (c *ℤ pos d)
products_up a c b d e f = rw (← unsigned_abs-mul a (pos b), ← unsigned_abs-mul c (pos d)) (up (a *ℤ pos b) (c *ℤ pos d) e f) where
  up : (x y : ℤ) → below_zero x ≡ false → below_zero y ≡ false → nat_cmp (unsigned_abs x) (unsigned_abs y) ≡ int_cmp x y
  up (pos m) (pos n) e f = grind arith
  up (negsuc m) y e f = cc
  up (pos m) (negsuc n) e f = cc

pub products_down : (a c : ℤ) (b d : ℕ) → below_zero (a *ℤ pos b) ≡ true → below_zero (c *ℤ pos d) ≡ true → nat_cmp (unsigned_abs c * d) (unsigned_abs a * b) ≡ int_cmp (a *ℤ pos b) (c *ℤ pos d)
products_down a c b d e f = rw (← unsigned_abs-mul a (pos b), ← unsigned_abs-mul c (pos d)) (down (a *ℤ pos b) (c *ℤ pos d) e f) where
  down : (x y : ℤ) → below_zero x ≡ true → below_zero y ≡ true → nat_cmp (unsigned_abs y) (unsigned_abs x) ≡ int_cmp x y
  down (negsuc m) (negsuc n) e f = grind arith
  down (pos m) y e f = cc
  down (negsuc m) (pos n) e f = cc

pub products_fall : (z w : ℤ) → below_zero z ≡ false → below_zero w ≡ true → int_cmp z w ≡ Greater
products_fall (pos m) (negsuc n) e f = grind arith
products_fall (negsuc m) w e f = cc
products_fall (pos m) (pos n) e f = cc

pub products_rise : (z w : ℤ) → below_zero z ≡ true → below_zero w ≡ false → int_cmp z w ≡ Less
products_rise (negsuc m) (pos n) e f = grind arith
products_rise (pos m) w e f = cc
products_rise (negsuc m) (negsuc n) e f = cc
