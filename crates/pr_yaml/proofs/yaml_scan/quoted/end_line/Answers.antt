use Rattle.std.proofs.Common.{◌∙◌}
use Rattle.pr_yaml.proofs.QuotedLines.{end_further}
use Rattle.pr_yaml.proofs.yaml_scan.quoted.end_line.Goals as goal

pub loop-next-preserved : goal.loop-next-preserved
loop-next-preserved c = end_further c.loop-next.last c.in-Some.next c.in-Some.ensures.next ∙ c.loop-next.invariant
