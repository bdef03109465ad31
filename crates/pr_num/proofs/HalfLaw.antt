-- `half` is the whole number next to the fraction, and the even one of two.
use Rattle.std.proofs.Common.{add-zero, ◌≡◌, ℕ, ◌+◌, ◌*◌, ◌/◌, ◌%◌, ◌<◌, ◌≤◌, inl, inr, sym, ap, subst, arith}
use Rattle.std.proofs.lemmas.Nat.{div-add-mod', mod_below}
use Rattle.std.proofs.Math.Nat.{mul-le-mul_right}
use Rattle.std.proofs.lemmas.Bool.{cases_lt, cases_eq, cases_order}
use Rattle.pr_num.specs.Half.{half_abs, round_by_rest}

-- x is the whole number next to n / d, and the even one of two
abbrev pub IsNearest : ℕ → ℕ → ℕ → Type 0
IsNearest n d x = (2 * n ≤ 2 * (x * d) + d) × (2 * (x * d) ≤ 2 * n + d)
    × (2 * n ≡ 2 * (x * d) + d → x % 2 ≡ 0) × (2 * (x * d) ≡ 2 * n + d → x % 2 ≡ 0)

pub round-low : (q r d : ℕ) → 2 * r < d → round_by_rest q r d ≡ q
round-low q r d h = grind arith

pub round-high : (q r d : ℕ) → d < 2 * r → round_by_rest q r d ≡ q + 1
round-high q r d h = grind arith

pub round-tie : (q r d : ℕ) → 2 * r ≡ d → round_by_rest q r d ≡ q + q % 2
round-tie q r d h = grind arith

near-low : (q r d : ℕ) → 2 * r < d → IsNearest (q * d + r) d q
near-low q r d h = (omega arith, omega arith, (λ e. absurd (omega arith)), (λ e. absurd (omega arith)))

near-high : (q r d : ℕ) → d < 2 * r → r < d → IsNearest (q * d + r) d (q + 1)
near-high q r d h l = (omega arith, omega arith, (λ e. absurd (omega arith)), (λ e. absurd (omega arith)))

near-tie_low : (q r d : ℕ) → 2 * r ≡ d → q % 2 ≡ 0 → IsNearest (q * d + r) d q
near-tie_low q r d h e = (omega arith, omega arith, (λ _. e), (λ _. e))

near-tie_high : (q r d : ℕ) → 2 * r ≡ d → q % 2 ≡ 1 → IsNearest (q * d + r) d (q + 1)
near-tie_high q r d h e = (omega arith, omega arith, (λ _. omega arith), (λ _. omega arith))

near-tie : (q r d : ℕ) → 2 * r ≡ d → IsNearest (q * d + r) d (q + q % 2)
near-tie q r d h =
    elim (cases_eq (q % 2) 0) [
      | inl e ↦ rw (e, add-zero) (near-tie_low q r d h e)
      | inr n ↦ let e : q % 2 ≡ 1 = omega arith in rw e (near-tie_high q r d h e)
    ]

pub round-nearest : (q r d : ℕ) → r < d → IsNearest (q * d + r) d (round_by_rest q r d)
round-nearest q r d h =
    elim (cases_lt (2 * r) d) [
      | inl l ↦ subst (IsNearest (q * d + r) d) (sym (round-low q r d l)) (near-low q r d l)
      | inr g ↦ elim (cases_lt d (2 * r)) [
        | inl l ↦ subst (IsNearest (q * d + r) d) (sym (round-high q r d l)) (near-high q r d l h)
        | inr k ↦ let e : 2 * r ≡ d = omega arith in subst (IsNearest (q * d + r) d) (sym (round-tie q r d e)) (near-tie q r d e)
      ]
    ]

pub half_abs-nearest : (n d : ℕ) → 0 < d → IsNearest n d (half_abs n d)
unfolding half_abs
half_abs-nearest n d h = subst (λ m. IsNearest m d (half_abs n d)) (div-add-mod' n d) (round-nearest (n / d) (n % d) d (mod_below n d h))

-- no other number is
not_below : (n d x y : ℕ) → 0 < d → IsNearest n d x → IsNearest n d y → x < y → ⊥
not_below n d x y h p q lt =
    elim (cases_lt (x + 1) y) [
      | inl far ↦ let m : (x + 2) * d ≤ y * d = mul-le-mul_right d (omega arith) in omega (arith, p.0, q.1, m)
      | inr near ↦
          let e : y ≡ x + 1 = omega arith in
          let m : y * d ≡ (x + 1) * d = ap (λ k. k * d) e in
          let a : 2 * n ≡ 2 * (x * d) + d = omega (arith, p.0, q.1, m) in
          let b : 2 * (y * d) ≡ 2 * n + d = omega (arith, p.0, q.1, m) in
          omega (arith, p.2 a, q.3 b)
    ]

pub nearest-one : (n d x y : ℕ) → 0 < d → IsNearest n d x → IsNearest n d y → x ≡ y
nearest-one n d x y h p q =
    elim (cases_order x y) [
      | inl e ↦ e
      | inr o ↦ elim o [
        | inl lt ↦ absurd (not_below n d x y h p q lt)
        | inr lt ↦ absurd (not_below n d y x h q p lt)
      ]
    ]
