-- The calendar: fields of the date and the time of day of an instant, which is given as seconds
-- since 1970 in UTC.
use Rattle.std.specs.Prelude.{ℕ, zero, suc, ◌+◌, ◌-◌, ◌*◌, ◌/◌, ◌%◌, ◌^◌, ◌==◌, ◌&&◌, ◌||◌, not, nat_lt, Bool, ℤ, pos, negsuc, ◌+ℤ◌, int_div, if◌then◌else◌}
use Rattle.pr_num.specs.declared.value.Num.{Num}
use Rattle.pr_num.specs.declared.value.Num.TheVariants.{Finite, NaN, PosInf, NegInf}
use Rattle.pr_num.specs.Arithmetic.{whole_of}
use Rattle.spec_vectors.specs.declared.part.Part.{Part}
use Rattle.spec_vectors.specs.declared.part.Part.TheVariants.{Minute, Hour, DayOfWeek, DayOfMonth, DayOfYear, DaysInMonth, Month, Year}

-- Every fourth year is a leap year, but of the whole centuries only every fourth.
abbrev pub is_leap : ℕ → Bool
is_leap year = (year % 4 == 0) && (not (year % 100 == 0) || (year % 400 == 0))

-- Thirty days have September, April, June and November.
abbrev pub month_days : ℕ → ℕ → ℕ
month_days year month =
    if month == 2 then (if is_leap year then 29 else 28)
    else (if (month == 4) || (month == 6) || (month == 9) || (month == 11) then 30 else 31)

-- the days of the first months of a year
unfoldable pub days_before : ℕ → ℕ → ℕ
days_before year zero = 0
days_before year (suc months) = days_before year months + month_days year (suc months)

-- A date of the Gregorian calendar: its year, its month from 1, its day from 1.
pub record Date : Type 0 where
  pub year : ℕ
  pub month : ℕ
  pub day : ℕ

abbrev pub date : ℕ → ℕ → ℕ → Date
date year month day = record { year = year; month = month; day = day }

-- the day after
abbrev pub next_date : Date → Date
next_date d =
    if nat_lt d.day (month_days d.year d.month) then date d.year d.month (d.day + 1)
    else (if nat_lt d.month 12 then date d.year (d.month + 1) 1 else date (d.year + 1) 1 1)

-- so many days after 1 January of the year 1, which was a Monday
unfoldable pub date_after : ℕ → Date
date_after zero = date 1 1 1
date_after (suc days) = next_date (date_after days)

-- From 1 January of the year 1 to that of 1970 there are 719162 days; the last second is that of
-- the year 9999.
abbrev pub seconds_in_day : ℕ
seconds_in_day = 86400

abbrev pub seconds_to_1970 : ℕ
seconds_to_1970 = 719162 * seconds_in_day

abbrev pub seconds_to_10000 : ℕ
seconds_to_10000 = 3652059 * seconds_in_day

-- A field by the days before the date, and the second of the day.
abbrev pub date_field : Part → ℕ → ℕ → ℕ
date_field Minute days second = second / 60 % 60
date_field Hour days second = second / 3600
date_field DayOfWeek days second = (days + 1) % 7
date_field DayOfMonth days second = (date_after days).day
date_field DayOfYear days second = days_before (date_after days).year ((date_after days).month - 1) + (date_after days).day
date_field DaysInMonth days second = month_days (date_after days).year (date_after days).month
date_field Month days second = (date_after days).month
date_field Year days second = (date_after days).year

-- by the whole seconds since 1 January of the year 1: a number where they are in the years 1 to
-- 9999
abbrev pub field_at : Part → ℤ → Num
field_at part (pos seconds) =
    if nat_lt seconds seconds_to_10000 then whole_of (pos (date_field part (seconds / seconds_in_day) (seconds % seconds_in_day)))
    else NaN
field_at part (negsuc n) = NaN

-- The seconds are cut to whole seconds, toward zero.
abbrev pub whole_seconds : ℤ → ℤ
whole_seconds units = int_div units (pos (10 ^ 9))

abbrev pub calendar_of : Part → Num → Num
calendar_of part (Finite units) = field_at part (whole_seconds units +ℤ pos seconds_to_1970)
calendar_of part NaN = NaN
calendar_of part PosInf = NaN
calendar_of part NegInf = NaN
