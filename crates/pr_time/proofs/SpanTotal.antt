-- The grammar of spans ends, and so every text is a span or none, and has a first bad place.
use Rattle.std.proofs.Common.{◌≡◌, ℕ, suc, ◌-◌, nat_le, List, [], ◌∷◌, true, length, refl, inl, inr, ap, ◌∙◌, Some, None}
use Rattle.std.specs.Prelude.{◌⊎◌, Option}
use Rattle.pr_forms.specs.Form.{rule}
use Rattle.pr_forms.specs.Run.{Runs, ReaderOutcome, good, bad, left_of}
use Rattle.pr_forms.specs.Reading.{EndsIn, Ends, reading}
use Rattle.pr_forms.proofs.Ending.{Answered, rule_answered, given_reads, reads_given, given_place}
use Rattle.pr_forms.proofs.Places.{run_place, only_reading}
use Rattle.pr_forms.proofs.Sound.{meets, reads}
use Rattle.pr_time.specs.declared.text.Letter.{Letter}
use Rattle.pr_time.specs.declared.text.Unit.{Unit as TimeUnit}
use Rattle.pr_time.specs.declared.text.Unit.TheVariants.{Year, Week, Day, Hour, Minute, Second, Millisecond}
use Rattle.pr_time.specs.SpanText.{production, seen, below, Rule, Text, AfterZero, After, From, AfterM, NoUnit, SpanValue, count, scaled, span, mark, ReadsSpan, IsBadPlace}
use Rattle.pr_time.specs.SpanAnswer.{span_in, span_of, bad_span_place}
use Rattle.pr_time.proofs.SpanTable.{known}
use Rattle.pr_time.specs.SpanTable.{table, from_rank, step_rank, steps}

below_low : (u : TimeUnit) → nat_le (step_rank (below u)) 15 ≡ true
below_low Year = refl
below_low Week = refl
below_low Day = refl
below_low Hour = refl
below_low Minute = refl
below_low Second = refl
below_low Millisecond = refl

ends_known : (n : Rule) → EndsIn table step_rank steps (step_rank n) (production n)
ends_known Text = ((tt, refl), ((tt, tt), refl))
ends_known AfterZero = ((tt, refl), tt)
ends_known (After u) = (((tt, tt), below_low u), tt)
ends_known (From Year) = ((tt, refl), refl)
ends_known (From Week) = ((tt, refl), refl)
ends_known (From Day) = ((tt, refl), refl)
ends_known (From Hour) = ((tt, refl), refl)
ends_known (From Minute) = ((tt, refl), (tt, refl))
ends_known (From Second) = ((tt, refl), refl)
ends_known (From Millisecond) = (tt, (tt, refl))
ends_known AfterM = ((tt, refl), (tt, refl))
ends_known NoUnit = tt

unit_below : (u : TimeUnit) → nat_le (suc (from_rank u)) steps ≡ true
unit_below Year = refl
unit_below Week = refl
unit_below Day = refl
unit_below Hour = refl
unit_below Minute = refl
unit_below Second = refl
unit_below Millisecond = refl

below_known : (n : Rule) → nat_le (suc (step_rank n)) steps ≡ true
below_known Text = refl
below_known AfterZero = refl
below_known (After u) = refl
below_known (From u) = unit_below u
below_known AfterM = refl
below_known NoUnit = refl

pub ends : Ends production table step_rank steps
ends = record { some = refl; below = below_known; ends = ends_known }

-- whether a whole text is a span
pub span_or_none : (text : List ℕ) → ((ms : ℕ) × ReadsSpan text ms) ⊎ ((ms : ℕ) → ReadsSpan text ms → ⊥)
span_or_none text = by_outcome a.outcome a.runs
  where
    a : Answered production table (rule Text) (seen text)
    a = rule_answered production table known step_rank steps ends Text (seen text)

    only : (o : ReaderOutcome Letter SpanValue) → Runs production table (rule Text) (seen text) o → (ms : ℕ) → ReadsSpan text ms → o ≡ good (span ms) []
    only o q ms d = only_reading production table known Text (seen text) o (span ms) q d

    by_outcome : (o : ReaderOutcome Letter SpanValue) → Runs production table (rule Text) (seen text) o → ((ms : ℕ) × ReadsSpan text ms) ⊎ ((ms : ℕ) → ReadsSpan text ms → ⊥)
    by_outcome (bad rest) q = inr (λ ms d. let e = only (bad rest) q ms d in absurd (cc))
    by_outcome (good (span ms) []) q = inl (ms, reads (meets q))
    by_outcome (good v (t ∷ rest)) q = inr (λ ms d. let e = only (good v (t ∷ rest)) q ms d in absurd (cc))
    by_outcome (good (count k) []) q = inr (λ ms d. let e = only (good (count k) []) q ms d in absurd (cc))
    by_outcome (good (scaled s k) []) q = inr (λ ms d. let e = only (good (scaled s k) []) q ms d in absurd (cc))
    by_outcome (good mark []) q = inr (λ ms d. let e = only (good mark []) q ms d in absurd (cc))

pub span_place : (text : List ℕ) → (n : ℕ) × IsBadPlace text n
span_place text =
    let a = rule_answered production table known step_rank steps ends Text (seen text) in
    (length (seen text) - length (left_of a.outcome), run_place production table known Text (seen text) a.outcome a.runs)

-- the functions say what is read, and where the first bad byte stands
pub span_of_reading : (text : List ℕ) (ms : ℕ) → ReadsSpan text ms → span_of text ≡ Some ms
unfolding span_of
span_of_reading text ms d = rw (reads_given production table known step_rank steps ends Text (seen text) (span ms) d) refl

pub reading_of_span : (text : List ℕ) (ms : ℕ) → span_of text ≡ Some ms → ReadsSpan text ms
unfolding span_of
reading_of_span text ms e = by_value (reading production table steps (rule Text) (seen text)) refl e
  where
    by_value : (o : Option SpanValue) → reading production table steps (rule Text) (seen text) ≡ o → span_in o ≡ Some ms → ReadsSpan text ms
    by_value (Some (span n)) h i = let k : n ≡ ms = cc in given_reads production table known step_rank steps ends Text (seen text) (span ms) (h ∙ ap (λ m. Some (span m)) k)
    by_value (Some (count n)) h i = cc
    by_value (Some (scaled n s)) h i = cc
    by_value (Some mark) h i = cc
    by_value None h i = cc

pub place_of_text : (text : List ℕ) → IsBadPlace text (bad_span_place text)
unfolding bad_span_place
place_of_text text = given_place production table known step_rank steps ends Text (seen text)
