use Rattle.std.proofs.Common.{arith, ap, ◌∙◌, ◌+◌, ◌*◌, ◌^◌, min}
use Rattle.pr_time.proofs.SpanReading.{one_more, no_more}
use Rattle.pr_time.proofs.text.number_in.Goals as goal

pub loop-digit-preserved : goal.loop-digit-preserved
loop-digit-preserved c = record {
  read = λ f start n e h. one_more f start _ _ c.loop-digit.number c.in-Some.digit _ (c.loop-digit.invariant.read f start n e h) c.in-Some.ensures.read
      (c.min-number.ensures ∙ ap (λ d. min (c.loop-digit.number * 10 + d) (2 ^ 40 + 1)) c.from.ensures);
  small = omega (arith, c.min-number.ensures);
  shorter = omega (arith, c.loop-digit.invariant.shorter, c.in-Some.ensures.shorter);
}

pub returns-clause-read : goal.returns-clause-read
returns-clause-read c = λ f start n e h. no_more f start _ c.loop-digit.number (c.loop-digit.invariant.read f start n e h) c.in_default.ensures.read
