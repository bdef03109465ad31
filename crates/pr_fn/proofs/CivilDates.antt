-- The walk from 1 January of the year 1 reaches the date of jiff with the day number.
use Rattle.std.proofs.Common.{◌≡◌, ℕ, zero, suc, ◌+◌, ◌-◌, ◌≤◌, ◌<◌, ℤ, pos, ◌+ℤ◌, true, false, nat_lt, refl, sym, ap, ◌∙◌, subst, arith, rules, inl, inr, lit≤, unsigned_abs}
use Rattle.std.proofs.lemmas.Bool.{cases_lt}
use Rattle.std.proofs.lemmas.Bool.Decides.{nat_tests}
use Rattle.jiff_core.specs.Calendar.{days_from_civil, days_in_month, days_of_months}
use Rattle.jiff_core.specs.Date.{epoch_day, ordinal}
use Rattle.jiff_core.specs.declared.civil.date.Date as plain
use Rattle.jiff_core.proofs.SignedLemmas.{signed_arith}
use Rattle.jiff.proofs.Family.{days_from_civil-day, days_from_civil-next_month, days_from_civil-next_year, days_from_civil-max, epoch_day_injective}
use Rattle.spec_vectors.specs.Calendar.{Date, date, date_after, days_before, next_date}
use Rattle.pr_fn.specs.private.Dates.{IsDateAfter}

record IsAt (n : ℕ) (c : Date) : Type 0 where
  pub month_in : (1 ≤ c.month) × (c.month ≤ 12)
  pub day_in : (1 ≤ c.day) × (c.day ≤ days_in_month (pos c.year) c.month)
  pub year_in : c.year ≤ 9999
  pub number : days_from_civil (pos c.year) c.month c.day +ℤ pos 719162 ≡ pos n

begins : days_from_civil (pos 1) 1 1 +ℤ pos 719162 ≡ pos 0
unfolding days_from_civil Rattle.jiff_core.specs.Calendar.day_count Rattle.jiff_core.specs.Calendar.days_of_years Rattle.jiff_core.specs.Calendar.days_of_months
begins = refl

next_day : (n : ℕ) (c : Date) → IsAt n c → c.day < days_in_month (pos c.year) c.month → IsAt (suc n) (date c.year c.month (c.day + 1))
next_day n c h more = record {
  month_in = h.month_in;
  day_in = (omega arith, omega (arith, more));
  year_in = h.year_in;
  number = omega (arith, signed_arith, h.number, days_from_civil-day (pos c.year) c.month c.day (c.day + 1) h.day_in.0 (omega arith));
}

next_month : (n : ℕ) (c : Date) → IsAt n c → c.day ≡ days_in_month (pos c.year) c.month → c.month < 12 → 1 ≤ days_in_month (pos c.year) (c.month + 1) → IsAt (suc n) (date c.year (c.month + 1) 1)
next_month n c h last more long = record {
  month_in = (omega arith, omega (arith, more));
  day_in = (omega arith, long);
  year_in = h.year_in;
  number = omega (arith, signed_arith, h.number, days_from_civil-next_month (pos c.year) c.month c.day h.month_in.0 last);
}

next_year : (n : ℕ) (c : Date) → IsAt n c → c.month ≡ 12 → c.day ≡ 31 → n < 3652058 → IsAt (suc n) (date (c.year + 1) 1 1)
next_year n c h month day low =
    let at : days_from_civil (pos c.year) 12 31 +ℤ pos 719162 ≡ pos n = rw (month, day) at h.number in
    let under : c.year < 9999 = elim (cases_lt c.year 9999) [
      | inl lt ↦ lt
      | inr ge ↦ absurd (let top : c.year ≡ 9999 = omega (arith, h.year_in, ge) in
          let number : days_from_civil (pos 9999) 12 31 +ℤ pos 719162 ≡ pos n = subst (λ y. days_from_civil (pos y) 12 31 +ℤ pos 719162 ≡ pos n) top at in
          omega (arith, signed_arith, number, days_from_civil-max, low))
    ] in
    record {
      month_in = (omega arith, omega arith);
      day_in = (omega arith, omega arith);
      year_in = omega (arith, under);
      number = omega (arith, signed_arith, at, days_from_civil-next_year (pos c.year) (pos (c.year + 1)) (search rules) (search rules));
    }

month_long : (y : ℤ) (m : ℕ) → 1 ≤ days_in_month y m
month_long y m = grind (arith, nat_tests)

last_of_december : (y : ℤ) → days_in_month y 12 ≡ 31
last_of_december y = refl

step : (n : ℕ) (c : Date) → IsAt n c → n < 3652058 → IsAt (suc n) (next_date c)
step n c h low = elim (cases_lt c.day (days_in_month (pos c.year) c.month)) [
  | inl more ↦
      let yes : nat_lt c.day (days_in_month (pos c.year) c.month) ≡ true = grind (arith, nat_tests, more) in
      rw yes (next_day n c h more)
  | inr full ↦
      let no : nat_lt c.day (days_in_month (pos c.year) c.month) ≡ false = grind (arith, nat_tests, full) in
      elim (cases_lt c.month 12) [
        | inl more ↦
            let yes : nat_lt c.month 12 ≡ true = grind (arith, nat_tests, more) in
            rw (no, yes) (next_month n c h (omega (arith, h.day_in.1, full)) more (month_long (pos c.year) (c.month + 1)))
        | inr over ↦
            let never : nat_lt c.month 12 ≡ false = grind (arith, nat_tests, over) in
            let month : c.month ≡ 12 = omega (arith, h.month_in.1, over) in
            let day : c.day ≡ 31 = omega (arith, h.day_in.1, full, ap (days_in_month (pos c.year)) month ∙ last_of_december (pos c.year)) in
            rw (no, never) (next_year n c h month day low)
      ]
]

walk : (n : ℕ) → n ≤ 3652058 → IsAt n (date_after n)
unfolding date_after
walk zero low = record { month_in = (omega arith, omega arith); day_in = (omega arith, omega arith); year_in = omega arith; number = begins }
walk (suc n) low = step n (date_after n) (walk n (omega (arith, low))) (omega (arith, low))

-- a date of jiff with that day number is the date that the walk reaches
pub same_date : (n : ℕ) (d : plain.Date) → n ≤ 3652058 → epoch_day d +ℤ pos 719162 ≡ pos n → IsDateAfter n d
same_date n d low e =
    let at = walk n low in
    let c = date_after n in
    let there : plain.Date = record { year = pos c.year; month = c.month; day = c.day; year_in = search (rules, at.year_in); month_in = at.month_in; day_in = at.day_in } in
    let same = epoch_day_injective d there (omega (arith, signed_arith, e, at.number)) in
    record { year = same.0; month = same.1; day = same.2 }

-- the days of the first months
pub same_days_before : (year months : ℕ) → days_of_months (pos year) months ≡ days_before year months
unfolding days_of_months days_before
same_days_before year zero = refl
same_days_before year (suc months) = ap (λ n. n + days_in_month (pos year) (suc months)) (same_days_before year months)

pub ordinal_after : (n : ℕ) (d : plain.Date) → IsDateAfter n d → ordinal d ≡ days_before (date_after n).year ((date_after n).month - 1) + (date_after n).day
ordinal_after n d h =
    (λ i. days_of_months (h.year i) (h.month i - 1) + h.day i)
    ∙ ap (λ m. m + (date_after n).day) (same_days_before (date_after n).year ((date_after n).month - 1))

-- a date that is known is the one that the walk reaches
known_date : (n year month day : ℕ) → n ≤ 3652058 → year ≤ 9999 → (1 ≤ month) × (month ≤ 12) → (1 ≤ day) × (day ≤ days_in_month (pos year) month)
    → days_from_civil (pos year) month day +ℤ pos 719162 ≡ pos n → date_after n ≡ date year month day
known_date n year month day low years months days number =
    let d : plain.Date = record { year = pos year; month = month; day = day; year_in = search (rules, years); month_in = months; day_in = days } in
    let is = same_date n d low number in
    λ i. date (sym (ap unsigned_abs is.year) i) (sym is.month i) (sym is.day i)

number_1970 : days_from_civil (pos 1970) 1 1 +ℤ pos 719162 ≡ pos 719162
unfolding days_from_civil Rattle.jiff_core.specs.Calendar.day_count Rattle.jiff_core.specs.Calendar.days_of_years days_of_months
number_1970 = refl

number_2000 : days_from_civil (pos 2000) 2 29 +ℤ pos 719162 ≡ pos 730178
unfolding days_from_civil Rattle.jiff_core.specs.Calendar.day_count Rattle.jiff_core.specs.Calendar.days_of_years days_of_months
number_2000 = refl

number_1900 : days_from_civil (pos 1900) 3 1 +ℤ pos 719162 ≡ pos 693654
unfolding days_from_civil Rattle.jiff_core.specs.Calendar.day_count Rattle.jiff_core.specs.Calendar.days_of_years days_of_months
number_1900 = refl

number_2024 : days_from_civil (pos 2024) 12 31 +ℤ pos 719162 ≡ pos 739250
unfolding days_from_civil Rattle.jiff_core.specs.Calendar.day_count Rattle.jiff_core.specs.Calendar.days_of_years days_of_months
number_2024 = refl

pub date_1970 : date_after 719162 ≡ date 1970 1 1
date_1970 = known_date 719162 1970 1 1 (lit≤ tt) (lit≤ tt) (lit≤ tt, lit≤ tt) (lit≤ tt, lit≤ tt) number_1970

pub date_2000 : date_after 730178 ≡ date 2000 2 29
date_2000 = known_date 730178 2000 2 29 (lit≤ tt) (lit≤ tt) (lit≤ tt, lit≤ tt) (lit≤ tt, lit≤ tt) number_2000

pub date_1900 : date_after 693654 ≡ date 1900 3 1
date_1900 = known_date 693654 1900 3 1 (lit≤ tt) (lit≤ tt) (lit≤ tt, lit≤ tt) (lit≤ tt, lit≤ tt) number_1900

pub date_2024 : date_after 739250 ≡ date 2024 12 31
date_2024 = known_date 739250 2024 12 31 (lit≤ tt) (lit≤ tt) (lit≤ tt, lit≤ tt) (lit≤ tt, lit≤ tt) number_2024

pub date_9999 : date_after 3652058 ≡ date 9999 12 31
date_9999 = known_date 3652058 9999 12 31 (lit≤ tt) (lit≤ tt) (lit≤ tt, lit≤ tt) (lit≤ tt, lit≤ tt) (ap (λ z. z +ℤ pos 719162) days_from_civil-max)
