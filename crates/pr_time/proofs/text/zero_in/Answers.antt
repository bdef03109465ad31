use Rattle.std.proofs.Common.{sym, ◌∙◌, refl}
use Rattle.std.proofs.lemmas.Result.{MatchResult-weaker}
use Rattle.pr_forms.specs.Form.{turns}
use Rattle.pr_time.specs.SpanText.{shifted, digit, count}
use Rattle.pr_time.proofs.SpanReading.{after_zero, after_zero_bad, zero_alone, zero_digits}
use Rattle.pr_time.proofs.text.zero_in.Goals as goal

pub returns-then-goes_on : goal.returns-then-goes_on
returns-then-goes_on c = record {
  read =
      MatchResult-weaker c.amount_in.result (c.amount_in.ensures.read (turns shifted (count 0) digit) _ 0 refl (zero_digits _))
      (λ x m. after_zero _ _ x.0 (sym c.if-goes_on.true ∙ c.goes_on.ensures) m)
      (λ rest m. after_zero_bad _ _ (sym c.if-goes_on.true ∙ c.goes_on.ensures) m);
}

pub returns-else-goes_on : goal.returns-else-goes_on
returns-else-goes_on c = record { read = zero_alone _ (sym c.if-goes_on.false ∙ c.goes_on.ensures) }
