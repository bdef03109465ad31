-- The distances of an extrapolation in whole parts of a millisecond, as they are worked out.
use Rattle.std.specs.Prelude.{◌≡◌, ℕ, ◌*◌, ◌^◌, ◌<◌, ◌≤◌, ℤ}
use Rattle.spec_vectors.specs.spec_history.declared.spot.Spot.{Spot}
use Rattle.spec_vectors.specs.Extrapolation.{Fraction}
use Rattle.pr_window.specs.private.Gains.{covered_between, reach_after_last, reach_before_first}
use Rattle.pr_window.specs.declared.folds.gains.Stretch.{Stretch}

-- A fraction of milliseconds is a whole number of such parts.
abbrev pub IsPartOf : ℕ → Fraction → ℕ → Type 0
IsPartOf parts f n = n * f.bottom ≡ f.top * parts

-- All distances in parts, two for each step from one value to the next.
pub record IsStretch (from to : ℤ) (first last : Spot) (steps : ℕ) (s : Stretch) : Type 0 where
  pub size : s.covered ≡ covered_between first last * (2 * steps)
  pub before : IsPartOf (2 * steps) (reach_before_first from first last steps) s.before
  pub after : IsPartOf (2 * steps) (reach_after_last to first last steps) s.after
  pub some : 0 < s.covered
  pub small : s.covered < 2 ^ 63
  pub before_small : (s.before < 2 ^ 45) × (s.before ≤ 2 * s.covered)
  pub after_small : (s.after < 2 ^ 45) × (s.after ≤ 2 * s.covered)
