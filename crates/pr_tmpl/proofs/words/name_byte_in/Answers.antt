use Rattle.std.proofs.Common.{sym, ◌∙◌}
use Rattle.pr_tmpl.proofs.TextKept.{label_kind}
use Rattle.pr_tmpl.proofs.WordWays.{name_more, name_over, name_over_end}
use Rattle.pr_tmpl.proofs.words.name_byte_in.Goals as goal

pub returns-then-is_name_part-clause-read : goal.returns-then-is_name_part-clause-read
returns-then-is_name_part-clause-read c = λ name. name_more c.args.text.now c.in-Some.rest.now c.in-Some.kind c.in-Some.byte c.in-Some.ensures.read (sym c.is_name_part.ensures ∙ c.if-is_name_part.true) name

pub returns-else-is_name_part-clause-read : goal.returns-else-is_name_part-clause-read
returns-else-is_name_part-clause-read c = λ name. name_over c.args.text.now c.in-Some.rest.now c.in-Some.kind c.in-Some.byte c.in-Some.ensures.read (sym c.is_name_part.ensures ∙ c.if-is_name_part.false) name

pub returns-in-None-clause-read : goal.returns-in-None-clause-read
returns-in-None-clause-read c = λ name. name_over_end c.args.text.now c.in-None.ensures.read name

pub returns-then-is_name_part-clause-text : goal.returns-then-is_name_part-clause-text
returns-then-is_name_part-clause-text c = label_kind c.in-Some.kind c.args.text.now c.in-Some.rest.now (sym c.is_name_part.ensures ∙ c.if-is_name_part.true) c.in-Some.ensures.text
