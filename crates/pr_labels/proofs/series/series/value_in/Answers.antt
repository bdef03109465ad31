use Rattle.std.proofs.Common.{ap, ◌∙◌}
use Rattle.pr_labels.proofs.SeriesReading.{value_exit, value_read}
use Rattle.pr_labels.proofs.series.series.value_in.Goals as goal

pub returns-in_err-bytes-clause-read : goal.returns-in_err-bytes-clause-read
returns-in_err-bytes-clause-read c = value_exit _ _ _ c.in_err-bytes.field-0.0 c.from_residual.ensures.1 c.in_err-bytes.ensures.read

pub returns-clause-read : goal.returns-clause-read
returns-clause-read c = value_read _ c.in_ok-bytes.rest.now c.in_ok-bytes.bytes.items _ (c.new.ensures ∙ ap (λ v. v.items) c.in-Ok.ensures.ok) c.in_ok-bytes.ensures.read
