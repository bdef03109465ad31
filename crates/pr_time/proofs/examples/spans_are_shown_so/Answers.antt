use Rattle.pr_time.proofs.WorkedSpans as example
use Rattle.pr_time.proofs.examples.spans_are_shown_so.Goals as goal

pub returns-clause-zero : goal.returns-clause-zero
returns-clause-zero c = example.shown_zero

pub returns-clause-week : goal.returns-clause-week
returns-clause-week c = example.shown_week

pub returns-clause-parts : goal.returns-clause-parts
returns-clause-parts c = example.shown_parts

pub returns-clause-each : goal.returns-clause-each
returns-clause-each c = example.shown_each
