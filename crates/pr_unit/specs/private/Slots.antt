-- What is found at checks, each in its slot.
use Rattle.std.specs.Prelude.{◌≡◌, ℕ, ◌+◌, ◌<◌, ◌≤◌, List, [], length, map, replicate, slice_get, Some}
use Rattle.std.specs.List.{enumerate_from}
use Rattle.pr_group.specs.spec_rules.Groups.{Group}
use Rattle.spec_tests.specs.pr_testfile.Tests.{PlainTest}
use Rattle.spec_tests.specs.declared.failure.Failure.{Failure}
use Rattle.spec_tests.specs.Verdict.{alert_check, expr_check}

-- What is found at the checks up to a time stands in their slots. Checks are counted from 1.
pub record AreFilled {C : Type 0} (found : ℕ × C → List Failure) (time : C → ℕ) (checks : List C) (from : ℕ) (slots : List (List Failure)) : Type 0 where
  pub many : length slots ≡ length checks
  pub each : (k : ℕ) (c : C) (fs : List Failure) → slice_get checks k ≡ Some c → slice_get slots k ≡ Some fs → time c < from → fs ≡ found (k + 1, c)

-- the same, of the first ones also at one more time
pub record AreFilling {C : Type 0} (found : ℕ × C → List Failure) (time : C → ℕ) (checks : List C) (from n : ℕ) (slots : List (List Failure)) : Type 0 where
  pub many : length slots ≡ length checks
  pub done : (k : ℕ) (c : C) (fs : List Failure) → k < n → slice_get checks k ≡ Some c → slice_get slots k ≡ Some fs → time c < from + 1 → fs ≡ found (k + 1, c)
  pub rest : (k : ℕ) (c : C) (fs : List Failure) → n ≤ k → slice_get checks k ≡ Some c → slice_get slots k ≡ Some fs → time c < from → fs ≡ found (k + 1, c)

-- so many slots in which nothing is found
abbrev pub empty_slots : ℕ → List (List Failure)
empty_slots count = replicate count []

-- What is found at the checks of a test up to a time stands in their slots, first those of alerts.
pub record HasFilled (every : ℕ) (groups : List Group) (number : ℕ) (t : PlainTest) (from : ℕ) (alerts exprs : List (List Failure)) : Type 0 where
  pub alerts_filled : AreFilled (alert_check every groups number t) (λ c. c.time) t.alerts from alerts
  pub exprs_filled : AreFilled (expr_check every groups number t) (λ c. c.time) t.exprs from exprs

-- All slots are filled: one after the other they are the verdict of the test.
pub record AreAllFilled (every : ℕ) (groups : List Group) (number : ℕ) (t : PlainTest) (alerts exprs : List (List Failure)) : Type 0 where
  pub alerts_found : alerts ≡ map (alert_check every groups number t) (enumerate_from 1 t.alerts)
  pub exprs_found : exprs ≡ map (expr_check every groups number t) (enumerate_from 1 t.exprs)
