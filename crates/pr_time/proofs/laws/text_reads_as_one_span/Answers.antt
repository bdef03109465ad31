use Rattle.std.proofs.Common.{◌≡◌, ℕ}
use Rattle.pr_forms.proofs.Readings.{one_reading}
use Rattle.pr_time.specs.SpanText.{production, seen, Text, span}
use Rattle.pr_time.proofs.SpanTable.{known}
use Rattle.pr_time.proofs.laws.text_reads_as_one_span.Goals as goal
use Rattle.pr_time.specs.SpanTable.{table}

same_span : (m n : ℕ) → span m ≡ span n → m ≡ n
same_span m n e = cc

pub returns : goal.returns
returns c = λ text m n d e. same_span m n (one_reading production table known Text (seen text) (span m) (span n) d e)
