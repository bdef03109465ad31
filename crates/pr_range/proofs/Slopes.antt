-- The parts of a slope, and sums that are too wide.
use Rattle.std.proofs.Common.{◌≡◌, ℕ, suc, ◌+◌, ◌*◌, ◌^◌, ◌<◌, ◌≤◌, nat_lt, Bool, true, false, ℤ, pos, negsuc, ◌+ℤ◌, ◌-ℤ◌, ◌*ℤ◌, List, Ok, Err, refl, sym, ap, ◌∙◌, arith, unsigned_abs}
use Rattle.std.specs.Prelude.{nat_le, if◌then◌else◌, FitsSigned}
use Rattle.std.specs.Int.{w128}
use Rattle.std.proofs.Math.Nat.{mul-add}
use Rattle.std.proofs.lemmas.Int.{ints}
use Rattle.std.proofs.lemmas.Grind.{common_steps}
use Rattle.spec_vectors.specs.pr_num.Arithmetic.{fitted, too_wide}
use Rattle.spec_vectors.specs.pr_num.declared.value.Num.TheVariants.{Finite}
use Rattle.pr_head.specs.spec_history.declared.spot.Spot.{Spot}
use Rattle.spec_vectors.specs.Regression.{count, is_slope_wide, sum_abs_xy, sum_abs_y, sum_x}
use Rattle.pr_range.specs.private.Parted.{IsParted}
use Rattle.pr_range.specs.declared.lines.Parted.{Parted}

le_true : (m n : ℕ) → m ≤ n → nat_le m n ≡ true
le_true m n h = grind (arith, common_steps)

le_false : (m n : ℕ) → n < m → nat_le m n ≡ false
le_false m n h = grind (arith, common_steps)

-- a sum of more than 128 bits is too wide
too_wide_is : (z : ℤ) → 10 ^ 29 ≤ unsigned_abs z → fitted z ≡ Err too_wide
too_wide_is z h = by (nat_lt (unsigned_abs z) (10 ^ 29)) refl where
  by : (b : Bool) → nat_lt (unsigned_abs z) (10 ^ 29) ≡ b → (if b then Ok (Finite z) else Err too_wide) ≡ Err too_wide
  by true e = absurd (grind (arith, common_steps))
  by false e = refl

small_fits : (z : ℤ) → unsigned_abs z < 2 ^ 127 → FitsSigned w128 z
small_fits z h = omega (arith, ints)

wide_is : (z : ℤ) → (unsigned_abs z < 10 ^ 29 → ⊥) → fitted z ≡ Err too_wide
wide_is z h = too_wide_is z (omega arith)

pub sum_wide : (base rise : ℤ) → (FitsSigned w128 (base +ℤ rise) → ⊥) → fitted (base +ℤ rise) ≡ Err too_wide
sum_wide base rise h = wide_is (base +ℤ rise) (λ small. h (small_fits (base +ℤ rise) (omega arith)))

pub rise_wide : (base rise : ℤ) → unsigned_abs base < 2 ^ 120 → (unsigned_abs rise < 2 ^ 127 → ⊥) → fitted (base +ℤ rise) ≡ Err too_wide
rise_wide base rise low h = wide_is (base +ℤ rise) (λ small. h (omega (arith, ints)))

-- a multiple of a parted sum
times_parted : (z : ℤ) (up down n : ℕ) → z +ℤ pos down ≡ pos up → pos n *ℤ z +ℤ pos (n * down) ≡ pos (n * up)
times_parted (pos m) up down n h =
    let all : m + down ≡ up = omega (arith, ints) in
    let spread : n * m + n * down ≡ n * up = sym (mul-add n m down) ∙ ap (λ k. n * k) all in
    omega (arith, ints, spread)
times_parted (negsuc m) up down n h =
    let all : down ≡ up + suc m = omega (arith, ints) in
    let spread : n * down ≡ n * up + n * suc m = ap (λ k. n * k) all ∙ mul-add n up (suc m) in
    omega (arith, ints, spread)

-- the top of the slope from its parts above and below zero
top_of : (s t : ℤ) (xy y : Parted) (n x : ℕ) → IsParted s xy → IsParted t y
    → pos (n * xy.up + x * y.down) -ℤ pos (n * xy.down + x * y.up) ≡ pos n *ℤ s -ℤ pos x *ℤ t
top_of s t xy y n x h k =
    let left = times_parted s xy.up xy.down n h in
    let right = times_parted t y.up y.down x k in
    omega (arith, ints)

pub parts_are : (s t : ℤ) (xy y p : Parted) (n x : ℕ) → IsParted s xy → IsParted t y → p.up ≡ n * xy.up + x * y.down → p.down ≡ n * xy.down + x * y.up
    → IsParted (pos n *ℤ s -ℤ pos x *ℤ t) p
parts_are s t xy y p n x h k up down =
    let top = top_of s t xy y n x h k in
    omega (arith, ints)

-- whether the parts of a slope are refused, by their magnitudes
all_parts : (a b c d n x : ℕ) (xy y : ℕ) → a + b ≡ xy → c + d ≡ y → n * a + x * d + (n * b + x * c) ≡ n * xy + x * y
all_parts a b c d n x xy y h k =
    let left : n * a + n * b ≡ n * xy = sym (mul-add n a b) ∙ ap (λ m. n * m) h in
    let right : x * c + x * d ≡ x * y = sym (mul-add x c d) ∙ ap (λ m. x * m) k in
    omega arith

pub slope_narrow : (first : Spot) (rest : List Spot) (xy y p : Parted) → xy.up + xy.down ≡ sum_abs_xy first rest → y.up + y.down ≡ sum_abs_y first rest
    → p.up ≡ count rest * xy.up + sum_x first rest * y.down → p.down ≡ count rest * xy.down + sum_x first rest * y.up → p.up + p.down < 10 ^ 35 → is_slope_wide first rest ≡ false
slope_narrow first rest xy y p h k up down small =
    let all = all_parts xy.up xy.down y.up y.down (count rest) (sum_x first rest) (sum_abs_xy first rest) (sum_abs_y first rest) h k in
    le_false (10 ^ 38) (1000 * (count rest * sum_abs_xy first rest + sum_x first rest * sum_abs_y first rest)) (omega arith)

pub slope_wide : (first : Spot) (rest : List Spot) (xy y : Parted) → xy.up + xy.down ≡ sum_abs_xy first rest → y.up + y.down ≡ sum_abs_y first rest
    → 10 ^ 35 ≤ count rest * xy.up + sum_x first rest * y.down + (count rest * xy.down + sum_x first rest * y.up) → is_slope_wide first rest ≡ true
slope_wide first rest xy y h k large =
    let all = all_parts xy.up xy.down y.up y.down (count rest) (sum_x first rest) (sum_abs_xy first rest) (sum_abs_y first rest) h k in
    le_true (10 ^ 38) (1000 * (count rest * sum_abs_xy first rest + sum_x first rest * sum_abs_y first rest)) (omega arith)
