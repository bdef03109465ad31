-- Forms in memory, some of whose calls are to fail.
use Rattle.std.specs.Prelude.{ℕ, List}
use Rattle.pr_outside.specs.private.Schedule.{Schedule}
use Rattle.pr_outside.specs.declared.course.Course.{Course}
use Rattle.spec_history.specs.declared.row.Row.{Row}

-- the bytes that are left, and how many were taken
pub record FailingSource : Type 0 where
  pub left : List ℕ
  pub taken : ℕ
  pub schedule : Schedule
  pub course : Course

-- the bytes that were taken
pub record FailingSink : Type 0 where
  pub taken : List ℕ
  pub schedule : Schedule
  pub course : Course

-- the names and the bytes of the files
pub record FailingFiles : Type 0 where
  pub files : List (List ℕ × List ℕ)
  pub schedule : Schedule
  pub course : Course

-- the rows, and the paths that were opened
pub record FailingKeeper : Type 0 where
  pub rows : List Row
  pub paths : List (List ℕ)
  pub schedule : Schedule

-- The same where no call is to fail.
pub record SureBytes : Type 0 where
  pub left : List ℕ
  pub taken : ℕ
  pub course : Course

pub record SureTaken : Type 0 where
  pub taken : List ℕ
  pub course : Course

pub record SureContent : Type 0 where
  pub files : List (List ℕ × List ℕ)
  pub calls : ℕ
  pub course : Course

pub record SureRows : Type 0 where
  pub rows : List Row
  pub paths : List (List ℕ)
