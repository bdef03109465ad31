use Rattle.pr_time.proofs.WorkedSpans as example
use Rattle.pr_time.proofs.examples.span_texts_read_so.Goals as goal

pub returns-clause-zero : goal.returns-clause-zero
returns-clause-zero c = example.read_zero

pub returns-clause-minutes : goal.returns-clause-minutes
returns-clause-minutes c = example.read_minutes

pub returns-clause-zero_part : goal.returns-clause-zero_part
returns-clause-zero_part c = example.read_zero_part

pub returns-clause-each_unit : goal.returns-clause-each_unit
returns-clause-each_unit c = example.read_each_unit
