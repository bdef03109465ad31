use Rattle.pr_forms.proofs.Taking.{taking}
use Rattle.pr_time.specs.declared.text.Unit.TheVariants.{Millisecond}
use Rattle.pr_time.specs.SpanText.{production, letter_of, unit_at, scaled, ms_of}
use Rattle.pr_time.proofs.text.after_s.Goals as goal
use Rattle.pr_time.specs.SpanTable.{table}

pub returns-clause-read : goal.returns-clause-read
returns-clause-read c = taking letter_of production table (unit_at Millisecond) (λ x. scaled (ms_of Millisecond) 0) (λ x. x.0) (λ x. x.1.now) c.take.result _ c.take.ensures (λ x r h. h)
