use Rattle.std.proofs.Common.{subst, sym}
use Rattle.pr_forms.specs.Form.{rule}
use Rattle.pr_forms.proofs.Places.{one_place}
use Rattle.pr_time.specs.SpanText.{production, seen, Text, IsBadPlace}
use Rattle.pr_time.specs.SpanAnswer.{bad_span_place}
use Rattle.pr_time.proofs.SpanTotal.{span_of_reading, reading_of_span, place_of_text}
use Rattle.pr_time.proofs.laws.spans_are_functions_of_their_texts.Goals as goal

pub returns-clause-span : goal.returns-clause-span
returns-clause-span c = λ text ms. (reading_of_span text ms, span_of_reading text ms)

pub returns-clause-place : goal.returns-clause-place
returns-clause-place c = λ text n. (λ e. subst (λ k. IsBadPlace text k) (sym e) (place_of_text text), λ p. one_place production (rule Text) (seen text) n (bad_span_place text) p (place_of_text text))
