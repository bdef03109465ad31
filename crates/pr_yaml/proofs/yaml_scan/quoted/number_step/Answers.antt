use Rattle.std.proofs.Common.{sym, ◌∙◌, arith}
use Rattle.pr_yaml.proofs.QuotedLines.{able_small}
use Rattle.pr_yaml.proofs.yaml_scan.quoted.number_step.Goals as goal

pub returns-else-left-eq0-clause-small : goal.returns-else-left-eq0-clause-small
returns-else-left-eq0-clause-small c = (omega (arith, c.if-left-eq0.false), (omega (arith, c.requires), able_small c.args.left c.args.number (sym c.fits.ensures ∙ c.if-fits.true)))
