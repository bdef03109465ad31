use Rattle.std.proofs.lemmas.Result.{MatchResult-weaker}
use Rattle.std.proofs.Common.{◌∙◌}
use Rattle.pr_forms.specs.Form.{fold, token}
use Rattle.pr_time.specs.SpanText.{shifted, digit, other_digit_at}
use Rattle.pr_time.proofs.SpanReading.{no_text, zero_text, zero_text_bad, other_text, other_text_bad, other_front, kept_small}
use Rattle.pr_time.proofs.text.span_in.Goals as goal

pub returns-in-None : goal.returns-in-None
returns-in-None c = record { read = no_text _ c.in-None.ensures.read }

pub returns-then-first-eq0 : goal.returns-then-first-eq0
returns-then-first-eq0 c = record {
  read =
      MatchResult-weaker c.zero_in.result c.zero_in.ensures.read
      (λ x m. zero_text _ _ _ c.in-Some.first x.0 c.if-first-eq0.true c.in-Some.ensures.read m)
      (λ rest m. zero_text_bad _ _ _ c.in-Some.first c.if-first-eq0.true c.in-Some.ensures.read m);
}

pub returns-else-first-eq0 : goal.returns-else-first-eq0
returns-else-first-eq0 c = record {
  read =
      MatchResult-weaker c.amount_in.result
      (c.amount_in.ensures.read (fold shifted (token other_digit_at) digit) _ c.in-Some.first (c.from.ensures ∙ kept_small c.in-Some.first c.in-Some.ensures.small)
      (other_front _ _ c.in-Some.first c.if-first-eq0.false c.in-Some.ensures.read))
      (λ x m. other_text _ _ _ c.in-Some.first x.0 c.if-first-eq0.false c.in-Some.ensures.read m)
      (λ rest m. other_text_bad _ _ _ c.in-Some.first c.if-first-eq0.false c.in-Some.ensures.read m);
}
