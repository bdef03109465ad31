use Rattle.pr_time.proofs.NoSpan.{no_span}
use Rattle.pr_time.proofs.laws.no_span_begins_with_a_number_after_milliseconds.Goals as goal

pub returns : goal.returns
returns c = no_span
