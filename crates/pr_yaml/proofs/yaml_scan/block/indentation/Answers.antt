use Rattle.std.proofs.Common.{sym, ◌∙◌}
use Rattle.pr_yaml.proofs.BlockLines.{no_text_line, bare_line, text_line}
use Rattle.pr_yaml.proofs.yaml_scan.block.indentation.Goals as goal

pub returns-else-is_spaces : goal.returns-else-is_spaces
returns-else-is_spaces c = c.begins_text.ensures ∙ (text_line c.args.inside c.args.parent c.loop-next.last c.in-Some.next c.in-Some.ensures.next (sym c.if-is_spaces.ensures) ∙ c.loop-next.invariant)

pub returns : goal.returns
returns c = no_text_line c.args.inside c.args.parent c.loop-next.last c.in_default.ensures.next ∙ c.loop-next.invariant

pub loop-next-preserved : goal.loop-next-preserved
loop-next-preserved c = bare_line c.args.inside c.args.parent c.loop-next.last c.in-Some.next c.in-Some.ensures.next (sym c.if-is_spaces.ensures) ∙ c.loop-next.invariant
