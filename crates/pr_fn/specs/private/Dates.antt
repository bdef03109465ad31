-- How the dates of jiff stand to those of the definitions.
use Rattle.std.specs.Prelude.{◌≡◌, ℕ, pos}
use Rattle.jiff_core.specs.declared.civil.date.Date.{Date}
use Rattle.spec_vectors.specs.Calendar.{date_after}

-- jiff's date has the year, the month and the day of the one so many days after 1 January of the
-- year 1
pub record IsDateAfter (days : ℕ) (d : Date) : Type 0 where
  pub year : d.year ≡ pos (date_after days).year
  pub month : d.month ≡ (date_after days).month
  pub day : d.day ≡ (date_after days).day
