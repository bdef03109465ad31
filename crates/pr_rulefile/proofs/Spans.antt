-- What the reader of spans answers, as a function of the text.
use Rattle.std.proofs.Common.{◌≡◌, ℕ, ◌≤◌, ◌<◌, ◌^◌, Option, Some, None, List, [], refl, arith}
use Rattle.std.proofs.lemmas.Bool.Decides.{nat_tests}
use Rattle.pr_words.specs.pr_forms.Form.{rule, Reads}
use Rattle.pr_ast.specs.pr_time.declared.text.SpanFault.{SpanFault}
use Rattle.pr_ast.specs.pr_time.declared.text.SpanFault.TheVariants.{BadSpan, SpanTooLong}
use Rattle.pr_ast.specs.pr_time.SpanText.{production, seen, Text, SpanValue, span, ReadsSpan, IsTooLong}
use Rattle.pr_ast.specs.pr_time.SpanAnswer.{span_of}
use Rattle.pr_ast.proofs.TimeSpanTotal.{span_of_reading, reading_of_span}
use Rattle.pr_rulefile.specs.Scalars.{if_short, short_span}

-- a span that is read is short
pub short_read : (text : List ℕ) (ms : ℕ) → ReadsSpan text ms → ms ≤ 2 ^ 40 → short_span text ≡ Some ms
unfolding short_span
short_read text ms d small = rw (span_of_reading text ms d) (short_at ms small)
  where
    short_at : (n : ℕ) → n ≤ 2 ^ 40 → if_short (Some n) ≡ Some n
    short_at n h = grind (arith, nat_tests)

-- where each reading is refused, there is none that is short
refused : (text : List ℕ) (e : SpanFault) → ((ms : ℕ) → ReadsSpan text ms → 2 ^ 40 < ms) → (o : Option ℕ) → span_of text ≡ o → if_short o ≡ None
refused text e h None q = refl
refused text e h (Some ms) q = let long : 2 ^ 40 < ms = h ms (reading_of_span text ms q) in grind (arith, nat_tests)

too_long : (v : ℕ) (e : SpanFault) → IsTooLong (span v) e → 2 ^ 40 < v
too_long v (BadSpan at) h = absurd h
too_long v SpanTooLong h = h

pub no_short_span : (text : List ℕ) (e : SpanFault) → ((v : SpanValue) → Reads production (rule Text) (seen text) v [] → IsTooLong v e) → short_span text ≡ None
unfolding short_span
no_short_span text e h = refused text e (λ ms d. too_long ms e (h (span ms) d)) (span_of text) refl
