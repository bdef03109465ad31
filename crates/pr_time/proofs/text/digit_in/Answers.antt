use Rattle.pr_forms.proofs.Taking.{taking}
use Rattle.pr_time.specs.SpanText.{production, letter_of, digit_at, count}
use Rattle.pr_time.proofs.text.digit_in.Goals as goal
use Rattle.pr_time.specs.SpanTable.{table}

pub returns-clause-read : goal.returns-clause-read
returns-clause-read c = taking letter_of production table digit_at count (λ x. x.0) (λ x. x.1.now) c.take.result _ c.take.ensures (λ x r h. h)
