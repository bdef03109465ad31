-- Rounded parts of gains: exact fractions of milliseconds, and whole numbers of parts of one.
use Rattle.std.proofs.Common.{◌≡◌, ℕ, ◌+◌, ◌*◌, ◌/◌, ◌%◌, ◌<◌, ◌≤◌, nat_lt, Bool, true, false, ℤ, pos, ◌*ℤ◌, refl, sym, ap, subst, ◌∙◌, arith, unsigned_abs}
use Rattle.std.specs.Prelude.{if◌then◌else◌}
use Rattle.std.proofs.Math.Nat.{mul-le-mul_left}
use Rattle.std.proofs.lemmas.Grind.{common_steps}
use Rattle.pr_num.specs.Half.{below_zero, half, half_abs, round_by_rest, signed}
use Rattle.pr_num.proofs.Rounding.{parts_of, rest_is}
use Rattle.pr_num.proofs.Signs.{abs_signed, half-scaled, half_abs_below}
use Rattle.spec_vectors.specs.Extrapolation.{Fraction, extended, fraction, plus}
use Rattle.pr_window.specs.private.Stretches.{IsPartOf}

-- what tests of numbers say
lt_true : (m n : ℕ) → m < n → nat_lt m n ≡ true
lt_true m n h = grind (arith, common_steps)

lt_false : (m n : ℕ) → n ≤ m → nat_lt m n ≡ false
lt_false m n h = grind (arith, common_steps)

true_lt : (m n : ℕ) → nat_lt m n ≡ true → m < n
true_lt m n h = grind (arith, common_steps)

false_le : (m n : ℕ) → nat_lt m n ≡ false → n ≤ m
false_le m n h = grind (arith, common_steps)

pub scaled_lt : (m n k : ℕ) → 0 < k → m < n → m * k < n * k
scaled_lt m n k some h = grind arith

scaled_le : (m n k : ℕ) → m ≤ n → m * k ≤ n * k
scaled_le m n k h = grind arith

-- comparing multiples
pub lt_scaled : (m n k : ℕ) → 0 < k → nat_lt (m * k) (n * k) ≡ nat_lt m n
lt_scaled m n k some = by (nat_lt m n) refl where
  by : (b : Bool) → nat_lt m n ≡ b → nat_lt (m * k) (n * k) ≡ b
  by true h = lt_true (m * k) (n * k) (scaled_lt m n k some (true_lt m n h))
  by false h = lt_false (m * k) (n * k) (scaled_le n m k (false_le m n h))

-- a fraction has many names
rounded : (q r d k : ℕ) → 0 < k → round_by_rest q (r * k) (d * k) ≡ round_by_rest q r d
rounded q r d k some =
    let twice : 2 * (r * k) ≡ 2 * r * k = omega arith in
    let low : nat_lt (2 * (r * k)) (d * k) ≡ nat_lt (2 * r) d = ap (λ m. nat_lt m (d * k)) twice ∙ lt_scaled (2 * r) d k some in
    let high : nat_lt (d * k) (2 * (r * k)) ≡ nat_lt d (2 * r) = ap (λ m. nat_lt (d * k) m) twice ∙ lt_scaled d (2 * r) k some in
    (λ i. if low i then q else (if high i then q + 1 else q + q % 2))

half_abs_scaled : (n d k : ℕ) → 0 < d → 0 < k → half_abs (n * k) (d * k) ≡ half_abs n d
unfolding half_abs
half_abs_scaled n d k some more =
    let rest = rest_is n d some in
    let whole : n ≡ n / d * d + n % d = omega arith in
    let low : n % d * k < d * k = scaled_lt (n % d) d k more rest.2 in
    let spread : (n / d * d + n % d) * k ≡ n / d * (d * k) + n % d * k = omega arith in
    let all : n * k ≡ n / d * (d * k) + n % d * k = ap (λ m. m * k) whole ∙ spread in
    let parts = parts_of (n * k) (n / d) (n % d * k) (d * k) low all in
    (λ i. round_by_rest (parts.0 i) (parts.1 i) (d * k)) ∙ rounded (n / d) (n % d) d k more

half_abs_same : (n d m e : ℕ) → 0 < d → 0 < e → n * e ≡ m * d → half_abs n d ≡ half_abs m e
half_abs_same n d m e some more h =
    let turned : d * e ≡ e * d = omega arith in
    sym (half_abs_scaled n d e some more) ∙ (λ i. half_abs (h i) (turned i)) ∙ half_abs_scaled m e d more some

pub half_same : (g : ℤ) (n d m e : ℕ) → 0 < d → 0 < e → n * e ≡ m * d → half (g *ℤ pos n) (pos d) ≡ half (g *ℤ pos m) (pos e)
half_same g n d m e some more h =
    let a = unsigned_abs g in
    let left : a * n * e ≡ a * (n * e) = omega arith in
    let right : a * (m * d) ≡ a * m * d = omega arith in
    let cross : a * n * e ≡ a * m * d = left ∙ ap (λ x. a * x) h ∙ right in
    half-scaled g n d some ∙ ap (signed (below_zero g)) (half_abs_same (a * n) d (a * m) e some more cross) ∙ sym (half-scaled g m e more)

-- a rounded part of a gain is at most as many gains
half_small : (g : ℤ) (n d m : ℕ) → 0 < d → n ≤ m * d → unsigned_abs (half (g *ℤ pos n) (pos d)) ≤ unsigned_abs g * m
half_small g n d m some h =
    let a = unsigned_abs g in
    let most : a * n ≤ a * (m * d) = mul-le-mul_left a h in
    let turned : a * (m * d) ≡ a * m * d = omega arith in
    subst (λ x. x ≤ a * m) (sym (ap unsigned_abs (half-scaled g n d some) ∙ abs_signed (below_zero g) (half_abs (a * n) d))) (half_abs_below (a * n) d (a * m) some (omega arith))

pub extended_small : (g : ℤ) (c l : ℕ) → 0 < c → l ≤ 4 * c → unsigned_abs (half (g *ℤ pos (c + l)) (pos c)) ≤ unsigned_abs g * 5
extended_small g c l some h = half_small g (c + l) c 5 some (omega arith)

-- A gain that goes on for some parts goes on for that fraction of a millisecond.
pub extended_same : (gain : ℤ) (covered parts n : ℕ) (f : Fraction) → 0 < covered → 0 < parts → 0 < f.bottom → IsPartOf parts f n
    → half (gain *ℤ pos (covered * parts + n)) (pos (covered * parts)) ≡ extended gain covered f
extended_same gain covered parts n f some more over h =
    let bottom : 0 < 1 * f.bottom * covered = omega (arith, scaled_lt 0 f.bottom covered some over) in
    let top : 0 < covered * parts = omega (arith, scaled_lt 0 covered parts more some) in
    let part : n * f.bottom * covered ≡ f.top * parts * covered = ap (λ x. x * covered) h in
    half_same gain (covered * parts + n) (covered * parts) (plus (fraction covered 1) f).top ((plus (fraction covered 1) f).bottom * covered) top bottom (omega arith)

pub plus_part : (parts m n : ℕ) (f h : Fraction) → IsPartOf parts f m → IsPartOf parts h n → IsPartOf parts (plus f h) (m + n)
plus_part parts m n f h p q =
    let left : m * f.bottom * h.bottom ≡ f.top * parts * h.bottom = ap (λ x. x * h.bottom) p in
    let right : n * h.bottom * f.bottom ≡ h.top * parts * f.bottom = ap (λ x. x * f.bottom) q in
    omega arith
