use Rattle.pr_time.proofs.SpanRead.{shown_reads}
use Rattle.pr_time.proofs.laws.shown_span_reads.Goals as goal

pub returns : goal.returns
returns c = λ ms h. shown_reads ms h
