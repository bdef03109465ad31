-- `half` is what its relation says, over the signed numbers.
use Rattle.std.proofs.Common.{◌≡◌, ℕ, zero, suc, ◌+◌, ◌*◌, ◌%◌, ◌<◌, ◌≤◌, ◌⊎◌, inl, inr, ℤ, pos, negsuc, neg_ℤ, ◌+ℤ◌, ◌*ℤ◌, ◌-ℤ◌, unsigned_abs, sym, ◌∙◌, ap, refl, arith}
use Rattle.std.proofs.Math.IntN.{suc_ℤ, pred_ℤ, suc_ℤ-*ℤ, pred_ℤ-*ℤ, zero-*ℤ}
use Rattle.std.proofs.Math.Nat.{le_of_mul-le-mul_right}
use Rattle.std.proofs.lemmas.Int.{ints, unsigned_abs-mul}
use Rattle.std.proofs.lemmas.Bool.{cases_lt, cases_eq}
use Rattle.pr_num.specs.Half.{half, half_abs, IsHalf}
use Rattle.pr_num.proofs.Signs.{half_abs_below, half_abs-above}
use Rattle.pr_num.proofs.HalfLaw.{IsNearest, half_abs-nearest}

dist-le : (n m : ℕ) → n ≤ m → unsigned_abs (pos n -ℤ pos m) + n ≡ m
dist-le n m h = omega (arith, ints)

dist-ge : (n m : ℕ) → m ≤ n → unsigned_abs (pos n -ℤ pos m) + m ≡ n
dist-ge n m h = omega (arith, ints)

abs-neg : (z : ℤ) → unsigned_abs (neg_ℤ z) ≡ unsigned_abs z
abs-neg z = omega (arith, ints)

-- the twofold distance of n from m is less than d, or d itself at an even number
close : (n m d x : ℕ) → 2 * n ≤ 2 * m + d → 2 * m ≤ 2 * n + d → (2 * n ≡ 2 * m + d → x % 2 ≡ 0) → (2 * m ≡ 2 * n + d → x % 2 ≡ 0) →
    (a : ℕ) → a ≡ unsigned_abs (pos n -ℤ pos m) → (2 * a < d) ⊎ ((2 * a ≡ d) × (x % 2 ≡ 0))
close n m d x p q e f a is =
    elim (cases_lt n m) [
      | inl lt ↦ let k = dist-le n m (omega arith) in elim (cases_eq (2 * a) d) [
        | inl s ↦ inr (s, f (omega (arith, k)))
        | inr s ↦ inl (omega (arith, k))
      ]
      | inr ge ↦ let k = dist-ge n m ge in elim (cases_eq (2 * a) d) [
        | inl s ↦ inr (s, e (omega (arith, k)))
        | inr s ↦ inl (omega (arith, k))
      ]
    ]

near_close : (n d x : ℕ) → IsNearest n d x → (a : ℕ) → a ≡ unsigned_abs (pos n -ℤ pos (x * d)) → (2 * a < d) ⊎ ((2 * a ≡ d) × (x % 2 ≡ 0))
near_close n d x h a is = close n (x * d) d x h.0 h.1 h.2 h.3 a is

-- how far p is from half p q times q is the same at each pair of signs
off_pos_neg : (n x d : ℕ) → unsigned_abs (pos n -ℤ pos (x * suc d)) ≡ unsigned_abs (pos n -ℤ neg_ℤ (pos x) *ℤ negsuc d)
off_pos_neg n zero d = omega (arith, ints)
off_pos_neg n (suc x) d = refl

off_neg_pos : (n x d : ℕ) → unsigned_abs (pos (suc n) -ℤ pos (x * d)) ≡ unsigned_abs (negsuc n -ℤ neg_ℤ (pos x) *ℤ pos d)
off_neg_pos n zero d = omega (arith, ints)
off_neg_pos n (suc x) d = let w : (m : ℕ) → unsigned_abs (pos (suc n) -ℤ pos m) ≡ unsigned_abs (negsuc n -ℤ neg_ℤ (pos m)) = λ m. omega (arith, ints) in w (suc x * d)

off_neg_neg : (n x d : ℕ) → unsigned_abs (pos (suc n) -ℤ pos (x * suc d)) ≡ unsigned_abs (negsuc n -ℤ pos x *ℤ negsuc d)
off_neg_neg n x d = let w : (m : ℕ) → unsigned_abs (pos (suc n) -ℤ pos m) ≡ unsigned_abs (negsuc n -ℤ neg_ℤ (pos m)) = λ m. omega (arith, ints) in w (x * suc d)

even-neg : (x : ℕ) → unsigned_abs (neg_ℤ (pos x)) ≡ x
even-neg x = omega (arith, ints)

pub half_is : (p q : ℤ) → 0 < unsigned_abs q → IsHalf p q (half p q)
unfolding half
half_is (pos n) (pos d) h = near_close n d (half_abs n d) (half_abs-nearest n d h) _ refl
half_is (pos n) (negsuc d) h = rw even-neg (near_close n (suc d) (half_abs n (suc d)) (half_abs-nearest n (suc d) h) _ (sym (off_pos_neg n (half_abs n (suc d)) d)))
half_is (negsuc n) (pos d) h = rw even-neg (near_close (suc n) d (half_abs (suc n) d) (half_abs-nearest (suc n) d h) _ (sym (off_neg_pos n (half_abs (suc n) d) d)))
half_is (negsuc n) (negsuc d) h = near_close (suc n) (suc d) (half_abs (suc n) (suc d)) (half_abs-nearest (suc n) (suc d) h) _ (sym (off_neg_neg n (half_abs (suc n) (suc d)) d))

-- ---- there is no other
triangle : (p a b : ℤ) → unsigned_abs (a -ℤ b) ≤ unsigned_abs (p -ℤ a) + unsigned_abs (p -ℤ b)
triangle p a b = omega (arith, ints)

pub apart_zero : (m n : ℤ) → unsigned_abs (m -ℤ n) ≡ 0 → m ≡ n
apart_zero m n h = omega (arith, ints)

apart_even : (m n : ℤ) → unsigned_abs (m -ℤ n) ≤ 1 → unsigned_abs m % 2 ≡ 0 → unsigned_abs n % 2 ≡ 0 → m ≡ n
apart_even m n h e f = omega (arith, ints)

small : (k b c : ℕ) → 0 < c → k * c ≤ b * c → k ≤ b
small k b c h le = le_of_mul-le-mul_right le h

pub less : (k c : ℕ) → k * c < c → k ≡ 0
less zero c h = refl
less (suc k) c h = absurd (omega arith)

either : (a d x : ℕ) → (2 * a < d) ⊎ ((2 * a ≡ d) × (x % 2 ≡ 0)) → 2 * a ≤ d
either a d x h = elim h [ inl l ↦ omega arith | inr e ↦ omega arith ]

strict : (p q m n : ℤ) → 0 < unsigned_abs q → unsigned_abs (m -ℤ n) * unsigned_abs q ≤ unsigned_abs (p -ℤ m *ℤ q) + unsigned_abs (p -ℤ n *ℤ q) →
    unsigned_abs (p -ℤ m *ℤ q) + unsigned_abs (p -ℤ n *ℤ q) < unsigned_abs q → m ≡ n
strict p q m n h t lt = apart_zero m n (less (unsigned_abs (m -ℤ n)) (unsigned_abs q) (omega (arith, t, lt)))

suc_is : (m : ℤ) → suc_ℤ m ≡ m +ℤ pos 1
suc_is (pos n) = omega (arith, ints)
suc_is (negsuc zero) = omega (arith, ints)
suc_is (negsuc (suc n)) = omega (arith, ints)

pred_is : (m : ℤ) → pred_ℤ m ≡ m -ℤ pos 1
pred_is (pos zero) = omega (arith, ints)
pred_is (pos (suc n)) = omega (arith, ints)
pred_is (negsuc n) = omega (arith, ints)

add-mul : (m n q : ℤ) → (m +ℤ n) *ℤ q ≡ m *ℤ q +ℤ n *ℤ q
add-mul (pos zero) n q = let e : pos 0 +ℤ n ≡ n = omega (arith, ints) in ap (λ (x : ℤ). x *ℤ q) e ∙ omega (arith, ints, zero-*ℤ q)
add-mul (pos (suc k)) n q =
    let e : pos (suc k) +ℤ n ≡ suc_ℤ (pos k +ℤ n) = omega (arith, ints, suc_is (pos k +ℤ n)) in
    ap (λ (x : ℤ). x *ℤ q) e ∙ suc_ℤ-*ℤ (pos k +ℤ n) q ∙ omega (arith, ints, add-mul (pos k) n q, suc_ℤ-*ℤ (pos k) q)
add-mul (negsuc zero) n q =
    let e : negsuc 0 +ℤ n ≡ pred_ℤ n = omega (arith, ints, pred_is n) in
    ap (λ (x : ℤ). x *ℤ q) e ∙ pred_ℤ-*ℤ n q ∙ omega (arith, ints, pred_ℤ-*ℤ (pos 0) q, zero-*ℤ q)
add-mul (negsuc (suc k)) n q =
    let e : negsuc (suc k) +ℤ n ≡ pred_ℤ (negsuc k +ℤ n) = omega (arith, ints, pred_is (negsuc k +ℤ n)) in
    ap (λ (x : ℤ). x *ℤ q) e ∙ pred_ℤ-*ℤ (negsuc k +ℤ n) q ∙ omega (arith, ints, add-mul (negsuc k) n q, pred_ℤ-*ℤ (negsuc k) q)

-- a product of a difference
factor : (m n q : ℤ) → m *ℤ q -ℤ n *ℤ q ≡ (m -ℤ n) *ℤ q
factor m n q =
    let e : m -ℤ n +ℤ n ≡ m = omega (arith, ints) in
    let f : m *ℤ q ≡ (m -ℤ n) *ℤ q +ℤ n *ℤ q = ap (λ (x : ℤ). x *ℤ q) (sym e) ∙ add-mul (m -ℤ n) n q in
    omega (arith, ints, f)

pub gap_product : (m n q : ℤ) → unsigned_abs (m *ℤ q -ℤ n *ℤ q) ≡ unsigned_abs (m -ℤ n) * unsigned_abs q
gap_product m n q = ap unsigned_abs (factor m n q) ∙ unsigned_abs-mul (m -ℤ n) q

pub half_one : (p q m n : ℤ) → 0 < unsigned_abs q → IsHalf p q m → IsHalf p q n → m ≡ n
half_one p q m n h a b =
    let t : unsigned_abs (m -ℤ n) * unsigned_abs q ≤ unsigned_abs (p -ℤ m *ℤ q) + unsigned_abs (p -ℤ n *ℤ q) = rw (← gap_product m n q) (triangle p (m *ℤ q) (n *ℤ q)) in
    elim a [
      | inl x ↦ strict p q m n h t (omega (arith, either (unsigned_abs (p -ℤ n *ℤ q)) (unsigned_abs q) (unsigned_abs n) b))
      | inr x ↦ elim b [
        | inl y ↦ strict p q m n h t (omega arith)
        | inr y ↦ apart_even m n (small (unsigned_abs (m -ℤ n)) 1 (unsigned_abs q) h (omega (arith, t, x.0, y.0))) x.1 y.1
      ]
    ]

pub half_only : (p q n : ℤ) → 0 < unsigned_abs q → IsHalf p q n → n ≡ half p q
half_only p q n h is = half_one p q n (half p q) h is (half_is p q h)

-- ---- how far a rounded fraction is from zero
abs_half : (p q : ℤ) → unsigned_abs (half p q) ≡ half_abs (unsigned_abs p) (unsigned_abs q)
unfolding half
abs_half (pos n) (pos d) = refl
abs_half (pos n) (negsuc d) = even-neg (half_abs n (suc d))
abs_half (negsuc n) (pos d) = even-neg (half_abs (suc n) d)
abs_half (negsuc n) (negsuc d) = refl

pub half_within : (p q : ℤ) (m : ℕ) → 0 < unsigned_abs q → unsigned_abs p ≤ m * unsigned_abs q → unsigned_abs (half p q) ≤ m
half_within p q m h le = rw (abs_half p q) (half_abs_below (unsigned_abs p) (unsigned_abs q) m h le)

pub half_beyond : (p q : ℤ) (m : ℕ) → 0 < unsigned_abs q → m * unsigned_abs q ≤ unsigned_abs p → m ≤ unsigned_abs (half p q)
half_beyond p q m h le = rw (abs_half p q) (half_abs-above (unsigned_abs p) (unsigned_abs q) m h le)
