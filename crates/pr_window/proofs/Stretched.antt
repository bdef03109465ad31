-- Gains over a stretch are those over its fractions of milliseconds.
use Rattle.std.proofs.Common.{◌≡◌, ℕ, ◌+◌, ◌*◌, ◌<◌, nat_lt, Bool, true, false, not, ◌&&◌, ℤ, pos, negsuc, ◌+ℤ◌, ◌*ℤ◌, refl, sym, ap, ◌∙◌, arith}
use Rattle.std.specs.Prelude.{int_lt, nat_le, if◌then◌else◌}
use Rattle.pr_num.specs.Half.{half}
use Rattle.spec_vectors.specs.spec_history.declared.spot.Spot.{Spot}
use Rattle.spec_vectors.specs.Spots.{units_in}
use Rattle.pr_window.specs.private.Gains.{counter_gain_between, covered_between, difference_between, gauge_gain_between, reach_after_last, reach_before_first}
use Rattle.spec_vectors.specs.Extrapolation.{Fraction, begins_at_zero, extended, fraction, ms_between, plus, reach}
use Rattle.pr_window.specs.private.Stretches.{IsPartOf, IsStretch}
use Rattle.pr_window.specs.declared.folds.gains.Stretch.{Stretch}
use Rattle.pr_window.proofs.Fractions.{extended_same, lt_scaled, plus_part, scaled_lt}

bottom_some : (distance covered steps : ℕ) → 0 < steps → 0 < (reach distance covered steps).bottom
bottom_some distance covered steps some = by (nat_le (11 * covered) (10 * steps * distance)) where
  by : (b : Bool) → 0 < (if b then fraction covered (2 * steps) else fraction distance 1).bottom
  by true = omega arith
  by false = omega arith

before_some : (from : ℤ) (first last : Spot) (steps : ℕ) → 0 < steps → 0 < (reach_before_first from first last steps).bottom
before_some from first last steps some = bottom_some (ms_between from (pos first.time)) (covered_between first last) (steps) some

after_some : (to : ℤ) (first last : Spot) (steps : ℕ) → 0 < steps → 0 < (reach_after_last to first last steps).bottom
after_some to first last steps some = bottom_some (ms_between (pos last.time) to) (covered_between first last) (steps) some

-- what a stretch needs
pub record Stands (first last : Spot) (steps : ℕ) : Type 0 where
  pub some : 0 < steps
  pub rising : first.time < last.time

covered_some : (first last : Spot) (steps : ℕ) → Stands first last steps → 0 < covered_between first last
covered_some first last steps h = let rising = h.rising in omega arith

over_both : (gain from to : ℤ) (first last : Spot) (steps : ℕ) (s : Stretch) → IsStretch from to first last steps s → Stands first last steps
    → half (gain *ℤ pos (s.covered + (s.before + s.after))) (pos s.covered) ≡ extended gain (covered_between first last) (plus (reach_before_first from first last steps) (reach_after_last to first last steps))
over_both gain from to first last steps s h k =
    let parts : 0 < 2 * steps = let some = k.some in omega arith in
    let bottom = scaled_lt 0 (reach_before_first from first last steps).bottom (reach_after_last to first last steps).bottom (after_some to first last steps k.some) (before_some from first last steps k.some) in
    ap (λ n. half (gain *ℤ pos (n + (s.before + s.after))) (pos n)) h.size
    ∙ extended_same gain (covered_between first last) (2 * steps) (s.before + s.after) (plus (reach_before_first from first last steps) (reach_after_last to first last steps)) (covered_some first last steps k) parts
    (omega (arith, bottom)) (plus_part (2 * steps) s.before s.after (reach_before_first from first last steps) (reach_after_last to first last steps) h.before h.after)

over_after : (gain from to : ℤ) (first last : Spot) (steps : ℕ) (s : Stretch) → IsStretch from to first last steps s → Stands first last steps
    → half (gain *ℤ pos (s.covered + s.after)) (pos s.covered) ≡ extended gain (covered_between first last) (reach_after_last to first last steps)
over_after gain from to first last steps s h k =
    let parts : 0 < 2 * steps = let some = k.some in omega arith in
    ap (λ n. half (gain *ℤ pos (n + s.after)) (pos n)) h.size
    ∙ extended_same gain (covered_between first last) (2 * steps) s.after (reach_after_last to first last steps) (covered_some first last steps k) parts (after_some to first last steps k.some) h.after

pub gauge_same : (from to : ℤ) (first last : Spot) (steps : ℕ) (s : Stretch) → IsStretch from to first last steps s → Stands first last steps
    → half (difference_between first last *ℤ pos (s.covered + (s.before + s.after))) (pos s.covered) ≡ gauge_gain_between from to first last steps
gauge_same from to first last steps s h k = over_both (difference_between first last) from to first last steps s h k

-- the test for the zero point in parts
zero_parts : (value gain : ℕ) (size parts n : ℕ) (f : Fraction) → 0 < parts → 0 < f.bottom → IsPartOf parts f n
    → nat_lt (value * (size * parts)) (gain * n) ≡ nat_lt (value * (size * f.bottom)) (gain * f.top)
zero_parts value gain size parts n f some more h =
    let part : gain * (n * f.bottom) ≡ gain * (f.top * parts) = ap (λ x. gain * x) h in
    let left : value * (size * parts) * f.bottom ≡ value * (size * f.bottom) * parts = omega arith in
    let right : gain * n * f.bottom ≡ gain * f.top * parts = omega arith in
    sym (lt_scaled (value * (size * parts)) (gain * n) f.bottom more) ∙ (λ i. nat_lt (left i) (right i)) ∙ lt_scaled (value * (size * f.bottom)) (gain * f.top) parts some

both_ways : (b x y : Bool) → ((b && false) && x) ≡ ((b && false) && y)
both_ways true x y = refl
both_ways false x y = refl

zero_same : (gain value : ℤ) (size parts n : ℕ) (f : Fraction) → 0 < parts → 0 < f.bottom → IsPartOf parts f n
    → (int_lt (pos 0) gain && not (int_lt value (pos 0)) && int_lt (value *ℤ pos (size * parts)) (gain *ℤ pos n)) ≡ begins_at_zero gain value size f
zero_same (pos g) (pos v) size parts n f some more h = ap (λ b. (int_lt (pos 0) (pos g) && not (int_lt (pos v) (pos 0))) && b) (zero_parts v g size parts n f some more h)
zero_same (pos g) (negsuc v) size parts n f some more h = both_ways (int_lt (pos 0) (pos g)) (int_lt (negsuc v *ℤ pos (size * parts)) (pos g *ℤ pos n)) (int_lt (negsuc v *ℤ pos (size * f.bottom)) (pos g *ℤ pos f.top))
zero_same (negsuc g) value size parts n f some more h = refl

pub begins_same : (gain from to : ℤ) (first last : Spot) (steps : ℕ) (s : Stretch) → IsStretch from to first last steps s → Stands first last steps
    → (int_lt (pos 0) gain && not (int_lt (units_in first.value) (pos 0)) && int_lt (units_in first.value *ℤ pos s.covered) (gain *ℤ pos s.before))
    ≡ begins_at_zero gain (units_in first.value) (covered_between first last) (reach_before_first from first last steps)
begins_same gain from to first last steps s h k =
    let parts : 0 < 2 * steps = let some = k.some in omega arith in
    ap (λ n. int_lt (pos 0) gain && not (int_lt (units_in first.value) (pos 0)) && int_lt (units_in first.value *ℤ pos n) (gain *ℤ pos s.before)) h.size
    ∙ zero_same gain (units_in first.value) (covered_between first last) (2 * steps) s.before (reach_before_first from first last steps) parts (before_some from first last steps k.some) h.before

pub counter_at_zero : (gained from to : ℤ) (first last : Spot) (steps : ℕ) (s : Stretch) → IsStretch from to first last steps s → Stands first last steps
    → begins_at_zero gained (units_in first.value) (covered_between first last) (reach_before_first from first last steps) ≡ true
    → half (gained *ℤ pos (s.covered + s.after)) (pos s.covered) +ℤ units_in first.value ≡ counter_gain_between from to first last steps gained
counter_at_zero gained from to first last steps s h k begins =
    ap (λ z. z +ℤ units_in first.value) (over_after gained from to first last steps s h k)
    ∙ ap (λ b. if b then extended gained (covered_between first last) (reach_after_last to first last steps) +ℤ units_in first.value
    else extended gained (covered_between first last) (plus (reach_before_first from first last steps) (reach_after_last to first last steps))) (sym begins)

pub counter_above_zero : (gained from to : ℤ) (first last : Spot) (steps : ℕ) (s : Stretch) → IsStretch from to first last steps s → Stands first last steps
    → begins_at_zero gained (units_in first.value) (covered_between first last) (reach_before_first from first last steps) ≡ false
    → half (gained *ℤ pos (s.covered + (s.before + s.after))) (pos s.covered) ≡ counter_gain_between from to first last steps gained
counter_above_zero gained from to first last steps s h k above =
    over_both gained from to first last steps s h k
    ∙ ap (λ b. if b then extended gained (covered_between first last) (reach_after_last to first last steps) +ℤ units_in first.value
    else extended gained (covered_between first last) (plus (reach_before_first from first last steps) (reach_after_last to first last steps))) (sym above)
