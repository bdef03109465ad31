use Rattle.pr_labels.proofs.SeriesReading.{over, at_end, part_text, has_byte}
use Rattle.pr_labels.proofs.series.series.part_in.Goals as goal

pub returns-in_default-clause-read : goal.returns-in_default-clause-read
returns-in_default-clause-read c = at_end c.args.part _ c.in_default.ensures.cases

pub returns-then-is_in-clause-text : goal.returns-then-is_in-clause-text
returns-then-is_in-clause-text c = part_text c.args.part _ c.in-Some.rest.now c.in-Some.first.now c.in-Some.ensures.cases.0 (has_byte c.args.part c.kind_of.result c.in-Some.first.now c.is_in.result _ c.kind_of.ensures c.is_in.ensures c.if-is_in.true)

pub returns-else-is_in-clause-read : goal.returns-else-is_in-clause-read
returns-else-is_in-clause-read c = over c.args.part _ c.in-Some.rest.now c.in-Some.first.now c.in-Some.ensures.cases.0 (has_byte c.args.part c.kind_of.result c.in-Some.first.now c.is_in.result _ c.kind_of.ensures c.is_in.ensures c.if-is_in.false)
