use Rattle.std.proofs.Common.{◌∙◌}
use Rattle.std.proofs.lemmas.Result.{MatchResult-weaker}
use Rattle.pr_forms.specs.Form.{fold}
use Rattle.pr_forms.specs.Run.{bad}
use Rattle.pr_time.specs.SpanText.{shifted, digit, amount, seen, From}
use Rattle.pr_forms.specs.Language.{Gives}
use Rattle.pr_time.specs.private.SpanReader.{spans}
use Rattle.pr_time.proofs.SpanReading.{amount_reads, amount_no_unit, amount_bad_part, exit, past_part, no_part, one_part, bad_part, first_digit, kept_small}
use Rattle.pr_time.proofs.text.+parts.Goals as goal

pub amount_in-returns-in_err-unit : goal.amount_in-returns-in_err-unit
amount_in-returns-in_err-unit t c = record {
  read = λ f start n e h.
      exit _ (λ rest. Gives spans (amount f (From c.args.greatest)) start (bad (seen rest.now))) _ c.in_err-unit.field-0.0 c.from_residual.ensures.1
      (amount_no_unit f start _ _ c.args.greatest _ (c.number_in-number.ensures.read f start n e h) c.in_err-unit.ensures.read);
}

pub amount_in-returns-in_err-more : goal.amount_in-returns-in_err-more
amount_in-returns-in_err-more t c = record {
  read = λ f start n e h.
      exit _ (λ rest. Gives spans (amount f (From c.args.greatest)) start (bad (seen rest.now))) _ c.in_err-more.field-0.0 c.from_residual-in_err-more.ensures.1
      (amount_bad_part f start _ _ _ c.args.greatest c.in_ok-unit.unit _ (c.number_in-number.ensures.read f start n e h) c.in_ok-unit.ensures.read c.in_err-more.ensures.read);
}

pub amount_in-returns : goal.amount_in-returns
amount_in-returns t c = record {
  read = λ f start n e h.
      amount_reads f start _ _ _ c.args.greatest c.in_ok-unit.unit _ c.in_ok-more.more _ (c.number_in-number.ensures.read f start n e h) c.in_ok-unit.ensures.read c.in_ok-more.ensures.read
      (cc (c.min.ensures, c.saturating_add.ensures, c.saturating_mul.ensures, c.ms.ensures));
}

pub parts_after-returns-in_default : goal.parts_after-returns-in_default
parts_after-returns-in_default t c = record { read = no_part c.args.last _ c.in_default.ensures.read }

pub parts_after-returns-in-Millisecond : goal.parts_after-returns-in-Millisecond
parts_after-returns-in-Millisecond t c = record {
  read =
      past_part c.args.last _ _ _ c.in-Some.first c.number_in.result.0 c.in-Millisecond.is c.in-Some.ensures.read
      (c.number_in.ensures.read (fold shifted digit digit) _ c.in-Some.first (c.from.ensures ∙ kept_small c.in-Some.first c.in-Some.ensures.small) (first_digit _ _ c.in-Some.first c.in-Some.ensures.read));
}

pub parts_after-returns-in_default-last : goal.parts_after-returns-in_default-last
parts_after-returns-in_default-last t c = record {
  read =
      MatchResult-weaker c.amount_in.result
      (c.amount_in.ensures.read (fold shifted digit digit) _ c.in-Some.first (c.from-in_default-last.ensures ∙ kept_small c.in-Some.first c.in-Some.ensures.small) (first_digit _ _ c.in-Some.first c.in-Some.ensures.read))
      (λ x m. one_part c.args.last c.smaller.result _ _ _ c.in-Some.first x.0 c.in_default-last.not-Millisecond c.smaller.ensures c.in-Some.ensures.read m)
      (λ rest m. bad_part c.args.last c.smaller.result _ _ _ c.in-Some.first c.in_default-last.not-Millisecond c.smaller.ensures c.in-Some.ensures.read m);
}
