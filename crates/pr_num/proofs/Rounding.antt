-- Facts on rounding.
use Rattle.std.proofs.Common.{◌≡◌, ℕ, ◌+◌, ◌-◌, ◌*◌, ◌/◌, ◌%◌, ◌^◌, ◌<◌, ◌≤◌, sym, ◌∙◌, ap, refl, arith}
use Rattle.std.proofs.lemmas.Nat.{div-mul-add, mod-mul-add, div-add-mod', mod_below}
use Rattle.std.specs.Ordering.{nat_cmp}
use Rattle.std.specs.declared.cmp.Ordering.TheVariants.{Less, Equal, Greater}
use Rattle.pr_num.specs.Half.{half_abs, round_by_rest}

-- a number less the multiple of its quotient
pub rest_is : (n d : ℕ) → 0 < d → (n / d * d ≤ n) × (n - n / d * d ≡ n % d) × (n % d < d)
rest_is n d h = let e = div-add-mod' n d in (omega (arith, e), omega (arith, e), mod_below n d h)

-- a quotient and a rest are told by the sum that they make
pub parts_of : (n q r d : ℕ) → r < d → n ≡ q * d + r → (n / d ≡ q) × (n % d ≡ r)
parts_of n q r d lt e = (ap (λ x. x / d) e ∙ div-mul-add q d r lt, ap (λ x. x % d) e ∙ mod-mul-add q d r lt)

pub product_is : (a b d : ℕ) → 0 < d → a * b ≡ a * b / d * d + a * b % d
product_is a b d h = sym (div-add-mod' (a * b) d)

-- a product with an even number, from that with its half
pub even_step : (a b q r k t d : ℕ) → b % 2 ≡ 0 → a * (b / 2) ≡ q * d + r → r + r ≡ k * d + t → a * b ≡ (2 * q + k) * d + t
even_step a b q r k t d even e s =
    let half : b ≡ b / 2 + b / 2 = omega arith in
    let twice : a * b ≡ a * (b / 2 + b / 2) = ap (λ x. a * x) half in
    omega (arith, twice, e, s)

-- and with an odd number
pub odd_step : (a b q r k t m u d : ℕ) → (b % 2 ≡ 0 → ⊥) → a * (b / 2) ≡ q * d + r → r + r ≡ k * d + t → t + a ≡ m * d + u → a * b ≡ (2 * q + k + m) * d + u
odd_step a b q r k t m u d odd e s v =
    let half : b ≡ b / 2 + b / 2 + 1 = omega arith in
    let twice : a * b ≡ a * (b / 2 + b / 2 + 1) = ap (λ x. a * x) half in
    omega (arith, twice, e, s, v)

-- the whole part and the rest of a product, from those of a factor
product_split : (a b c q r : ℕ) → a % c * b ≡ q * c + r → a * b ≡ (a / c * b + q) * c + r
product_split a b c q r e =
    let e1 : a / c * c + a % c ≡ a = div-add-mod' a c in
    let e3 : a * b ≡ (a / c * c + a % c) * b = ap (λ x. x * b) (sym e1) in
    omega (arith, e, e3)

pub round-ge : (q r d : ℕ) → q ≤ round_by_rest q r d
round-ge q r d = grind arith

pub half_abs-ge : (n d : ℕ) → n / d ≤ half_abs n d
unfolding half_abs
half_abs-ge n d = round-ge (n / d) (n % d) d

-- what the code computes in two parts
pub scaled_round : (a b c q r : ℕ) → r < c → a % c * b ≡ q * c + r → half_abs (a * b) c ≡ round_by_rest (a / c * b + q) r c
unfolding half_abs
scaled_round a b c q r lt e =
    let p = parts_of (a * b) (a / c * b + q) r c lt (product_split a b c q r e) in
    rw (p.0, p.1) refl

pub scaled_floor : (a b c q r : ℕ) → r < c → a % c * b ≡ q * c + r → a / c * b + q ≤ half_abs (a * b) c
scaled_floor a b c q r lt e = rw (scaled_round a b c q r lt e) (round-ge (a / c * b + q) r c)

pub scaled_front : (a b c : ℕ) → 0 < c → a / c * b ≤ half_abs (a * b) c
scaled_front a b c h =
    let f = scaled_floor a b c (a % c * b / c) (a % c * b % c) (mod_below (a % c * b) c h) (sym (div-add-mod' (a % c * b) c)) in
    omega (arith, f)

-- a number in two parts over a small one
wide_split : (h l n s : ℕ) → h * s + l ≡ (h / n * s + (h % n * s + l) / n) * n + (h % n * s + l) % n
wide_split h l n s =
    let e1 : h / n * n + h % n ≡ h = div-add-mod' h n in
    let e2 : (h % n * s + l) / n * n + (h % n * s + l) % n ≡ h % n * s + l = div-add-mod' (h % n * s + l) n in
    let e3 : (h / n * n + h % n) * s ≡ h * s = ap (λ x. x * s) e1 in
    omega (arith, e2, e3)

pub half_abs-wide : (h l n s : ℕ) → 0 < n → half_abs (h * s + l) n ≡ round_by_rest (h / n * s + (h % n * s + l) / n) ((h % n * s + l) % n) n
unfolding half_abs
half_abs-wide h l n s p =
    let lt : (h % n * s + l) % n < n = mod_below (h % n * s + l) n p in
    let d : (h * s + l) / n ≡ h / n * s + (h % n * s + l) / n = ap (λ x. x / n) (wide_split h l n s) ∙ div-mul-add (h / n * s + (h % n * s + l) / n) n ((h % n * s + l) % n) lt in
    let m : (h * s + l) % n ≡ (h % n * s + l) % n = ap (λ x. x % n) (wide_split h l n s) ∙ mod-mul-add (h / n * s + (h % n * s + l) / n) n ((h % n * s + l) % n) lt in
    rw (d, m) refl

pub wide_round : (h l n : ℕ) → 0 < n → half_abs (h * 2 ^ 64 + l) n ≡ round_by_rest (h / n * 2 ^ 64 + (h % n * 2 ^ 64 + l) / n) ((h % n * 2 ^ 64 + l) % n) n
wide_round h l n p = half_abs-wide h l n (2 ^ 64) p

pub wide_floor : (h l n : ℕ) → 0 < n → h / n * 2 ^ 64 + (h % n * 2 ^ 64 + l) / n ≤ half_abs (h * 2 ^ 64 + l) n
wide_floor h l n p = rw (wide_round h l n p) (round-ge (h / n * 2 ^ 64 + (h % n * 2 ^ 64 + l) / n) ((h % n * 2 ^ 64 + l) % n) n)

cmp_less : (x y : ℕ) → x < y → nat_cmp x y ≡ Less
cmp_less x y h = grind arith

cmp_greater : (x y : ℕ) → y < x → nat_cmp x y ≡ Greater
cmp_greater x y h = grind arith

cmp_equal : (x y : ℕ) → x ≡ y → nat_cmp x y ≡ Equal
cmp_equal x y h = grind arith

-- two numbers in two parts
pub parts_less : (x y h l k m : ℕ) → h * 2 ^ 64 + l ≡ x → k * 2 ^ 64 + m ≡ y → l < 2 ^ 64 → h < k → nat_cmp x y ≡ Less
parts_less x y h l k m e f lt less = cmp_less x y (omega arith)

pub parts_greater : (x y h l k m : ℕ) → h * 2 ^ 64 + l ≡ x → k * 2 ^ 64 + m ≡ y → m < 2 ^ 64 → k < h → nat_cmp x y ≡ Greater
parts_greater x y h l k m e f lt more = cmp_greater x y (omega arith)

pub parts_equal : (x y h l k m : ℕ) → h * 2 ^ 64 + l ≡ x → k * 2 ^ 64 + m ≡ y → h ≡ k → nat_cmp l m ≡ nat_cmp x y
parts_equal x y h l k m e f same = grind arith

-- a product in two parts
pub product_in_parts : (a b : ℕ) → (a / 2 ^ 64 * b + a % 2 ^ 64 * b / 2 ^ 64) * 2 ^ 64 + a % 2 ^ 64 * b % 2 ^ 64 ≡ a * b
product_in_parts a b = sym (product_split a b (2 ^ 64) (a % 2 ^ 64 * b / 2 ^ 64) (a % 2 ^ 64 * b % 2 ^ 64) (sym (div-add-mod' (a % 2 ^ 64 * b) (2 ^ 64))))
