-- Numbers times and over powers of ten.
use Rattle.std.specs.Prelude.{Option, Some, None, IfNone}
use Rattle.std.proofs.Common.{min, ◌≡◌, ℕ, zero, suc, ◌+◌, ◌-◌, ◌*◌, ◌/◌, ◌%◌, ◌^◌, ◌<◌, ◌≤◌, inl, inr, sym, ◌∙◌, ap, refl, subst, arith, true, false, sub-one, lit<}
use Rattle.std.proofs.Math.Nat.{pow-suc, pow-le-pow_right, mul-div-mul_right, mul-div_cancel, mul_assoc, mul-le-mul_right, mul-le-mul_left, div-div-eq-div-mul}
use Rattle.std.proofs.lemmas.Nat.{div-mul-add, mod-mul-add, div-add-mod', mod_below, pow-add, le-div}
use Rattle.std.proofs.lemmas.Bool.{cases_lt}
use Rattle.pr_num.specs.Half.{half_abs, round_by_rest}
use Rattle.pr_num.specs.declared.kept.Kept.{Kept}
use Rattle.pr_num.specs.private.Kept.{Keeps, SameShift}
use Rattle.pr_num.proofs.Signs.{half_abs-zero}
use Rattle.pr_num.proofs.Dropping.{ten_pos}
use Rattle.pr_num.proofs.HalfLaw.{round-low, round-high, round-tie}
use Rattle.pr_num.proofs.Rounding.{half_abs-ge}

-- a common factor
pub round-cancel : (q r d k : ℕ) → 0 < k → round_by_rest q (r * k) (d * k) ≡ round_by_rest q r d
round-cancel q r d k h =
    elim (cases_lt (2 * r) d) [
      | inl l ↦ let m : (2 * r + 1) * k ≤ d * k = mul-le-mul_right k (omega arith) in
          let l' : 2 * (r * k) < d * k = omega (arith, m) in round-low q (r * k) (d * k) l' ∙ sym (round-low q r d l)
      | inr g ↦ elim (cases_lt d (2 * r)) [
        | inl l ↦ let m : (d + 1) * k ≤ 2 * r * k = mul-le-mul_right k (omega arith) in
            let l' : d * k < 2 * (r * k) = omega (arith, m) in round-high q (r * k) (d * k) l' ∙ sym (round-high q r d l)
        | inr o ↦ let e : 2 * r ≡ d = omega arith in
            let m : 2 * r * k ≡ d * k = ap (λ x. x * k) e in
            let e' : 2 * (r * k) ≡ d * k = omega (arith, m) in round-tie q (r * k) (d * k) e' ∙ sym (round-tie q r d e)
      ]
    ]

mod-cancel : (n d k : ℕ) → 0 < d → 0 < k → (n * k) % (d * k) ≡ (n % d) * k
mod-cancel n d k hd hk =
    let e = div-add-mod' n d in
    let s : n * k ≡ (n / d) * (d * k) + (n % d) * k = omega (arith, ap (λ x. x * k) e) in
    let m : (n % d + 1) * k ≤ d * k = mul-le-mul_right k (let b = mod_below n d hd in omega (arith, b)) in
    let lt : (n % d) * k < d * k = omega (arith, m) in
    ap (λ x. x % (d * k)) s ∙ mod-mul-add (n / d) (d * k) ((n % d) * k) lt

pub half_abs-cancel : (n d k : ℕ) → 0 < d → 0 < k → half_abs (n * k) (d * k) ≡ half_abs n d
unfolding half_abs
half_abs-cancel n d k hd hk = rw (mul-div-mul_right n d hk, mod-cancel n d k hd hk) (round-cancel (n / d) (n % d) d k hk)

pub half_abs-whole : (n d : ℕ) → 0 < d → half_abs (n * d) d ≡ n
unfolding half_abs
half_abs-whole n d h =
    let e : n * d ≡ n * d + 0 = omega arith in
    let m : (n * d) % d ≡ 0 = ap (λ x. x % d) e ∙ mod-mul-add n d 0 h in
    rw (mul-div_cancel n h, m) (round-low n 0 d h)

-- a number below half of the divisor
pub half_abs-low : (n d : ℕ) → 2 * n < d → half_abs n d ≡ 0
unfolding half_abs
half_abs-low n d h =
    let lt : n < d = omega arith in
    let e : n ≡ 0 * d + n = omega arith in
    let q : n / d ≡ 0 = ap (λ x. x / d) e ∙ div-mul-add 0 d n lt in
    let m : n % d ≡ n = ap (λ x. x % d) e ∙ mod-mul-add 0 d n lt in
    rw (q, m) (round-low 0 n d h)

pub ten_le : (i j : ℕ) → i ≤ j → 10 ^ i ≤ 10 ^ j
ten_le i j h = pow-le-pow_right (lit< tt) h

pub pow_bound : (by : ℕ) → by < 38 → 10 ^ by ≤ 10 ^ 37
pow_bound by h = ten_le by 37 (omega arith)

pub grown_far : (front by : ℕ) → 0 < front → 29 < by → 10 ^ 29 ≤ front * 10 ^ by
grown_far front by h far =
    let p : 10 ^ 29 ≤ 10 ^ by = ten_le 29 by (omega arith) in
    let m : 1 * 10 ^ by ≤ front * 10 ^ by = mul-le-mul_right (10 ^ by) (omega arith) in
    omega (arith, p, m)

pub grown_wide : (front by : ℕ) → 10 ^ 29 ≤ front → 10 ^ 29 ≤ front * 10 ^ by
grown_wide front by h =
    let m : front * 1 ≤ front * 10 ^ by = mul-le-mul_left front (ten_pos by) in
    omega (arith, m)

-- ---- a long number over a power of ten, from its front
even_ten : (by : ℕ) → 0 < by → 10 ^ by ≡ 2 * (5 * 10 ^ (by - 1))
even_ten zero h = absurd (omega arith)
even_ten (suc m) h = rw (pow-suc, sub-one) (omega arith)

rest_split : (n P D : ℕ) → 0 < P → 0 < D → n % (P * D) ≡ (n / P % D) * P + n % P
rest_split n P D hp hd =
    let a = div-add-mod' n P in
    let b = div-add-mod' (n / P) D in
    let lp = mod_below n P hp in
    let ld = mod_below (n / P) D hd in
    let m : (n / P % D + 1) * P ≤ D * P = mul-le-mul_right P (omega (arith, ld)) in
    let lt : (n / P % D) * P + n % P < P * D = omega (arith, m, lp) in
    let b' : (n / P / D * D + n / P % D) * P ≡ n / P * P = ap (λ x. x * P) b in
    let s : n ≡ (n / P / D) * (P * D) + ((n / P % D) * P + n % P) = omega (arith, a, b') in
    ap (λ x. x % (P * D)) s ∙ mod-mul-add (n / P / D) (P * D) ((n / P % D) * P + n % P) lt

half_abs-front : (n P D : ℕ) → 0 < P → 0 < D → half_abs n (P * D) ≡ round_by_rest (n / P / D) ((n / P % D) * P + n % P) (P * D)
unfolding half_abs
half_abs-front n P D hp hd = rw (rest_split n P D hp hd, ← div-div-eq-div-mul n P D) refl

sticky_tie : (q R r P D : ℕ) → 0 < r → R * 2 ≡ D → round_by_rest q (R * P + r) (P * D) ≡ q + 1
sticky_tie q R r P D h e =
    let m : R * 2 * P ≡ D * P = ap (λ x. x * P) e in
    let g : P * D < 2 * (R * P + r) = omega (arith, m) in round-high q (R * P + r) (P * D) g

sticky_else : (q R r P D H : ℕ) → r < P → D ≡ 2 * H → (R * 2 ≡ D → r ≡ 0) → round_by_rest q (R * P + r) (P * D) ≡ round_by_rest q R D
sticky_else q R r P D H lt even none =
    elim (cases_lt (2 * R) D) [
      | inl l ↦ let m : (2 * R + 2) * P ≤ D * P = mul-le-mul_right P (omega arith) in
          let l' : 2 * (R * P + r) < P * D = omega (arith, m) in round-low q (R * P + r) (P * D) l' ∙ sym (round-low q R D l)
      | inr g ↦ elim (cases_lt D (2 * R)) [
        | inl l ↦ let m : (D + 1) * P ≤ 2 * R * P = mul-le-mul_right P (omega arith) in
            let l' : P * D < 2 * (R * P + r) = omega (arith, m) in round-high q (R * P + r) (P * D) l' ∙ sym (round-high q R D l)
        | inr o ↦ let e : R * 2 ≡ D = omega arith in
            let z : r ≡ 0 = none e in
            let m : R * 2 * P ≡ D * P = ap (λ x. x * P) e in
            let e1 : 2 * (R * P + r) ≡ P * D = omega (arith, m) in
            let e2 : 2 * R ≡ D = omega arith in
            round-tie q (R * P + r) (P * D) e1 ∙ sym (round-tie q R D e2)
      ]
    ]

pub shrunk-rest : (k : Kept) (n by : ℕ) → Keeps k n → k.rest ≡ true → (k.front % 10 ^ by) * 2 ≡ 10 ^ by → k.front / 10 ^ by + 1 ≡ half_abs n (10 ^ (k.dropped + by))
shrunk-rest k n by p t e =
    let r : 0 < n % 10 ^ k.dropped = (let q = p.rest in grind arith) in
    rw (pow-add 10 k.dropped by, half_abs-front n (10 ^ k.dropped) (10 ^ by) (ten_pos k.dropped) (ten_pos by), ← p.front)
    (sym (sticky_tie (k.front / 10 ^ by) (k.front % 10 ^ by) (n % 10 ^ k.dropped) (10 ^ k.dropped) (10 ^ by) r e))

pub shrunk-else : (k : Kept) (n by : ℕ) → Keeps k n → 0 < by → ((k.front % 10 ^ by) * 2 ≡ 10 ^ by → k.rest ≡ false) → round_by_rest (k.front / 10 ^ by) (k.front % 10 ^ by) (10 ^ by) ≡ half_abs n (10 ^ (k.dropped + by))
shrunk-else k n by p h f =
    rw (pow-add 10 k.dropped by, half_abs-front n (10 ^ k.dropped) (10 ^ by) (ten_pos k.dropped) (ten_pos by), ← p.front)
    (sym (sticky_else (k.front / 10 ^ by) (k.front % 10 ^ by) (n % 10 ^ k.dropped) (10 ^ k.dropped) (10 ^ by) (5 * 10 ^ (by - 1))
    (mod_below n (10 ^ k.dropped) (ten_pos k.dropped)) (even_ten by h)
    (λ e. let t = f e in let q = p.rest in grind arith)))

pub shrunk-zero : (k : Kept) (n by : ℕ) → Keeps k n → 37 < by → 0 ≡ half_abs n (10 ^ (k.dropped + by))
shrunk-zero k n by p far =
    let a = div-add-mod' n (10 ^ k.dropped) in
    let b = mod_below n (10 ^ k.dropped) (ten_pos k.dropped) in
    let e : n / 10 ^ k.dropped * 10 ^ k.dropped ≡ k.front * 10 ^ k.dropped = ap (λ x. x * 10 ^ k.dropped) (sym p.front) in
    let s = p.small in
    let m : (k.front + 1) * 10 ^ k.dropped ≤ 10 ^ 37 * 10 ^ k.dropped = mul-le-mul_right (10 ^ k.dropped) (omega arith) in
    let w : 10 ^ 38 ≤ 10 ^ by = ten_le 38 by (omega arith) in
    let v : 10 ^ 38 * 10 ^ k.dropped ≤ 10 ^ by * 10 ^ k.dropped = mul-le-mul_right (10 ^ k.dropped) w in
    let lt : 2 * n < 10 ^ k.dropped * 10 ^ by = omega (arith, a, b, e, m, v) in
    sym (rw (pow-add 10 k.dropped by) (half_abs-low n (10 ^ k.dropped * 10 ^ by) lt))

-- ---- where a number is placed
keeps-none : (k : Kept) (n : ℕ) → Keeps k n → k.front ≡ 0 → n ≡ 0
keeps-none k n p z =
    let j : k.dropped ≡ 0 = elim (cases_lt 0 k.dropped) [ inl lt ↦ absurd (omega (arith, p.full lt)) | inr ge ↦ omega arith ] in
    let e : k.front ≡ n / 10 ^ 0 = subst (λ d. k.front ≡ n / 10 ^ d) j p.front in
    omega (arith, e)

keeps-all : (k : Kept) (n : ℕ) → Keeps k n → k.front < 10 ^ 29 → (k.dropped ≡ 0) × (n ≡ k.front)
keeps-all k n p z =
    let j : k.dropped ≡ 0 = elim (cases_lt 0 k.dropped) [ inl lt ↦ absurd (omega (arith, p.full lt)) | inr ge ↦ omega arith ] in
    let e : k.front ≡ n / 10 ^ 0 = subst (λ d. k.front ≡ n / 10 ^ d) j p.front in
    (j, omega (arith, e))

pub placed-zero : (k : Kept) (n p s : ℕ) → Keeps k n → k.front ≡ 0 → 0 ≡ half_abs (n * 10 ^ p) (10 ^ s)
placed-zero k n p s h z =
    let e : n * 10 ^ p ≡ 0 = omega (arith, ap (λ x. x * 10 ^ p) (keeps-none k n h z)) in
    rw e (sym (half_abs-zero (10 ^ s) (ten_pos s)))

pub placed-some : (k : Kept) (n p s up down : ℕ) → Keeps k n → SameShift up down (p + k.dropped) s → k.front < 10 ^ 29 → down ≤ up → up - down < 30 → k.front * 10 ^ (up - down) ≡ half_abs (n * 10 ^ p) (10 ^ s)
placed-some k n p s up down h shift small le near =
    let a = keeps-all k n h small in
    let e : p ≡ (up - down) + s = elim shift [ inl same ↦ omega arith | inr far ↦ elim far [ inl far ↦ absurd (omega arith) | inr far ↦ absurd (omega arith) ] ] in
    rw (e, pow-add 10 (up - down) s, a.1, ← mul_assoc k.front (10 ^ (up - down)) (10 ^ s)) (sym (half_abs-whole (k.front * 10 ^ (up - down)) (10 ^ s) (ten_pos s)))

front_le : (k : Kept) (n : ℕ) → Keeps k n → k.front * 10 ^ k.dropped ≤ n
front_le k n h = let a = div-add-mod' n (10 ^ k.dropped) in let e : n / 10 ^ k.dropped * 10 ^ k.dropped ≡ k.front * 10 ^ k.dropped = ap (λ x. x * 10 ^ k.dropped) (sym h.front) in omega (arith, a, e)

placed-above : (k : Kept) (n p s e m : ℕ) → Keeps k n → p + k.dropped ≡ s + e → m ≤ k.front * 10 ^ e → m ≤ half_abs (n * 10 ^ p) (10 ^ s)
placed-above k n p s e m h at low =
    let a : k.front * 10 ^ k.dropped * 10 ^ p ≤ n * 10 ^ p = mul-le-mul_right (10 ^ p) (front_le k n h) in
    let b : 10 ^ p * 10 ^ k.dropped ≡ 10 ^ s * 10 ^ e = sym (pow-add 10 p k.dropped) ∙ ap (λ x. 10 ^ x) at ∙ pow-add 10 s e in
    let c : k.front * (10 ^ p * 10 ^ k.dropped) ≡ k.front * (10 ^ s * 10 ^ e) = ap (λ x. k.front * x) b in
    let d : k.front * 10 ^ e * 10 ^ s ≤ n * 10 ^ p = omega (arith, a, c) in
    let q : k.front * 10 ^ e ≤ n * 10 ^ p / 10 ^ s = le-div (k.front * 10 ^ e) (n * 10 ^ p) (10 ^ s) (ten_pos s) d in
    omega (arith, q, low, half_abs-ge (n * 10 ^ p) (10 ^ s))

pub placed-none : (k : Kept) (n p s up down : ℕ) → Keeps k n → SameShift up down (p + k.dropped) s → 0 < k.front → down ≤ up → 10 ^ 29 ≤ k.front * 10 ^ (up - down) → 10 ^ 29 ≤ half_abs (n * 10 ^ p) (10 ^ s)
placed-none k n p s up down h shift some le low =
    elim shift [
      | inl same ↦ placed-above k n p s (up - down) (10 ^ 29) h (omega arith) low
      | inr far ↦ elim far [
        | inl far ↦ placed-above k n p s (p + k.dropped - s) (10 ^ 29) h (omega arith) (grown_far k.front (p + k.dropped - s) some (omega arith))
        | inr far ↦ absurd (omega arith)
      ]
    ]

placed-below : (k : Kept) (n p s e : ℕ) → p + k.dropped + e ≡ s → half_abs n (10 ^ (k.dropped + e)) ≡ half_abs (n * 10 ^ p) (10 ^ s)
placed-below k n p s e at =
    let b : 10 ^ s ≡ 10 ^ (k.dropped + e) * 10 ^ p = ap (λ x. 10 ^ x) (let h : s ≡ k.dropped + e + p = omega arith in h) ∙ pow-add 10 (k.dropped + e) p in
    rw b (sym (half_abs-cancel n (10 ^ (k.dropped + e)) (10 ^ p) (ten_pos (k.dropped + e)) (ten_pos p)))

pub placed-shrunk : (k : Kept) (n p s up down x : ℕ) → Keeps k n → SameShift up down (p + k.dropped) s → up < down → x ≡ half_abs n (10 ^ (k.dropped + (down - up))) → x ≡ half_abs (n * 10 ^ p) (10 ^ s)
placed-shrunk k n p s up down x h shift lt e =
    elim shift [
      | inl same ↦ e ∙ placed-below k n p s (down - up) (omega arith)
      | inr far ↦ elim far [
        | inl far ↦ absurd (omega arith)
        | inr far ↦ e ∙ sym (shrunk-zero k n (down - up) h (omega arith)) ∙ shrunk-zero k n (s - (p + k.dropped)) h (omega arith)
            ∙ placed-below k n p s (s - (p + k.dropped)) (omega arith)
      ]
    ]

pub if_none : (o : Option ℕ) {P Q : Type 0} → IfNone o P → (P → Q) → IfNone o Q
if_none None h f = f h
if_none (Some x) h f = h

-- ---- where the exponent is cut
pub shift-down : (j f e e' : ℕ) → j < 2 ^ 70 → f < 2 ^ 70 → e' ≡ min e (10 ^ 30) → SameShift (9 + j) (f + e') (9 + j) (f + e)
shift-down j f e e' hj hf c = elim (cases_lt e (10 ^ 30)) [ inl lt ↦ inl (omega arith) | inr ge ↦ inr (inr (omega arith, omega arith)) ]

pub shift-up : (j f e e' : ℕ) → j < 2 ^ 70 → f < 2 ^ 70 → e' ≡ min e (10 ^ 30) → SameShift (9 + j + e') f (9 + e + j) (f + 0)
shift-up j f e e' hj hf c = elim (cases_lt e (10 ^ 30)) [ inl lt ↦ inl (omega arith) | inr ge ↦ inr (inl (omega arith, omega arith)) ]
