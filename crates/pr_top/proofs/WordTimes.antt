-- What is read of the word for a step.
use Rattle.std.proofs.Common.{◌≡◌, ℕ, ◌≤◌, ◌<◌, ◌^◌, Bool, true, false, cond, List, [], Option, Some, None, refl, sym, ap, ◌∙◌, arith, Global, String, ◌∷◌, length, map, string_bytes}
use Rattle.std.specs.Prelude.{nat_lt, option_and_then}
use Rattle.std.proofs.lemmas.Bool.{lt-ltb, ltb-true}
use Rattle.pr_test.specs.pr_forms.Form.{rule, Reads}
use Rattle.pr_engine.specs.pr_time.SpanAnswer.{span_of}
use Rattle.pr_engine.specs.pr_time.SpanText.{production, seen, Text, SpanValue, span, IsTooLong, ReadsSpan}
use Rattle.pr_engine.specs.pr_time.declared.text.SpanFault.{SpanFault}
use Rattle.pr_engine.specs.pr_time.declared.text.SpanFault.TheVariants.{BadSpan, SpanTooLong}
use Rattle.pr_engine.proofs.TimeSpanTotal.{reading_of_span, span_of_reading}
use Rattle.pr_top.specs.Command.{backfill_of, step_of}

-- a step of so many milliseconds
abbrev step_in : Option ℕ → Option ℕ
step_in = option_and_then (λ ms. cond (nat_lt (2 ^ 40) ms) None (Some ms))

small_enough : (ms : ℕ) → ms ≤ 2 ^ 40 → nat_lt (2 ^ 40) ms ≡ false
small_enough ms small = by (nat_lt (2 ^ 40) ms) refl
  where
    by : (b : Bool) → nat_lt (2 ^ 40) ms ≡ b → b ≡ false
    by true is = absurd (omega (arith, ltb-true (2 ^ 40) ms is, small))
    by false is = refl

step : (ms : ℕ) → ms ≤ 2 ^ 40 → step_in (Some ms) ≡ Some ms
step ms small = ap (λ (b : Bool). cond b None (Some ms)) (small_enough ms small)

none : (ms : ℕ) → 2 ^ 40 < ms → step_in (Some ms) ≡ None
none ms large = ap (λ (b : Bool). cond b None (Some ms)) (lt-ltb (2 ^ 40) ms large)

-- what a span that was read, or refused, says of the step
pub step_read : (word : List ℕ) (s : ℕ) → ReadsSpan word s → s ≤ 2 ^ 40 → Some s ≡ step_of word
step_read word s reads small = sym (ap step_in (span_of_reading word s reads) ∙ step s small)

pub no_step : (word : List ℕ) (e : SpanFault) → ((v : SpanValue) → Reads production (rule Text) (seen word) v [] → IsTooLong v e) → None ≡ step_of word
no_step word e only = sym (by (span_of word) refl)
  where
    too_long : (ms : ℕ) (e : SpanFault) → IsTooLong (span ms) e → 2 ^ 40 < ms
    too_long ms (BadSpan at) bad = absurd bad
    too_long ms SpanTooLong large = large

    by : (o : Option ℕ) → span_of word ≡ o → step_in o ≡ None
    by None is = refl
    by (Some ms) is = none ms (too_long ms e (only (span ms) (reading_of_span word ms is)))

-- fewer than four words
pub few : (words : List (String Global)) → length words < 4 → None ≡ backfill_of (map string_bytes words)
few [] short = refl
few (a ∷ []) short = refl
few (a ∷ b ∷ []) short = refl
few (a ∷ b ∷ c ∷ []) short = refl
few (a ∷ b ∷ c ∷ d ∷ words) short = absurd (omega (arith, short))
