-- Which refusals are counted.
use Rattle.std.specs.Prelude.{◌≡◌, ◌⊎◌, ℕ, ◌+◌, ◌-◌, ◌^◌, ◌<◌, ◌≤◌, min, Bool, true, false, List, length, All, Result, Ok, Err}
use Rattle.sqlite.specs.declared.error.ErrorCode.TheVariants as code
use Rattle.sqlite.specs.declared.error.Error.{Error}
use Rattle.sqlite.specs.declared.error.Error.TheVariants.{SqliteFailure}
use Rattle.pr_outside.specs.declared.keeping.KeepError.{KeepError}
use Rattle.pr_outside.specs.declared.keeping.KeepError.TheVariants.{Failed, Memory}
use Rattle.pr_outside.specs.spec_history.declared.row.Row.{Row}
use Rattle.pr_outside.specs.private.Schedule.{one_more}

-- a refusal for want of memory, which is not counted
abbrev pub is_want : Error → Bool
is_want (SqliteFailure code.OutOfMemory) = true
is_want _ = false

-- a refused call counts one refusal, of a statement or of its own, and any other call none
abbrev pub CountsOnce : {T : Type 0} → (refused odd now_refused now_odd : ℕ) → Result T KeepError → Type 0
CountsOnce refused odd now_refused now_odd (Ok x) = (now_refused ≡ refused) × (now_odd ≡ odd)
CountsOnce refused odd now_refused now_odd (Err Memory) = (now_refused ≡ refused) × (now_odd ≡ odd)
CountsOnce refused odd now_refused now_odd (Err Failed) = ((now_refused ≡ one_more refused) × (now_odd ≡ odd)) ⊎ ((now_refused ≡ refused) × (now_odd ≡ one_more odd))

-- a refused call counts one, and any other call none
abbrev pub CountsOne : {T : Type 0} → (count now : ℕ) → Result T KeepError → Type 0
CountsOne count now (Ok x) = now ≡ count
CountsOne count now (Err Memory) = now ≡ count
CountsOne count now (Err Failed) = now ≡ one_more count

-- the faults: the statements that were refused, and the store's own refusals
abbrev pub faults_of : ℕ → ℕ → ℕ
faults_of refused odd = min (refused + odd) (2 ^ 64 - 1)

-- Each number and time of the rows after so many ones is at most 2^63 - 1.
pub record AreWithin (size : ℕ) (rows : List Row) : Type 0 where
  pub numbers : size + length rows ≤ 2 ^ 63
  pub times : All (λ row. row.time < 2 ^ 63) rows
