-- How far the series of a test have come.
use Rattle.std.specs.Prelude.{◌≡◌, ℕ, ◌+◌, ◌<◌, ◌≤◌, List, drop, length, slice_get, Some}
use Rattle.spec_tests.specs.pr_testfile.declared.inputs.input.InputSeries.{InputSeries}
use Rattle.spec_tests.specs.pr_testfile.declared.inputs.stretch.Stretch.{Stretch}
use Rattle.spec_tests.specs.pr_testfile.Series.{point_at}
use Rattle.pr_unit.specs.declared.feeding.progress.Progress.{Progress}

-- What a series has from a place on is what it has without the stretches that lie behind, from the
-- next place of the one after them on.
abbrev pub IsAt : List Stretch → ℕ → Progress → Type 0
IsAt stretches place p = (i : ℕ) → point_at stretches (place + i) ≡ point_at (drop p.stretch stretches) (p.within + i)

-- All series have come to a place.
pub record HasFed (series : List InputSeries) (place : ℕ) (each : List Progress) : Type 0 where
  pub paired : length each ≡ length series
  pub at : (k : ℕ) (s : InputSeries) (p : Progress) → slice_get series k ≡ Some s → slice_get each k ≡ Some p → IsAt s.values place p

-- So many series have come to the place after it, and the others to the place.
pub record IsFeeding (series : List InputSeries) (place n : ℕ) (each : List Progress) : Type 0 where
  pub paired : length each ≡ length series
  pub done : (k : ℕ) (s : InputSeries) (p : Progress) → k < n → slice_get series k ≡ Some s → slice_get each k ≡ Some p → IsAt s.values (place + 1) p
  pub rest : (k : ℕ) (s : InputSeries) (p : Progress) → n ≤ k → slice_get series k ≡ Some s → slice_get each k ≡ Some p → IsAt s.values place p
