use Rattle.pr_tmpl.proofs.TemplateTable as table
use Rattle.pr_tmpl.proofs.TemplateEnds as ending
use Rattle.pr_tmpl.proofs.laws.one_piece_decides_templates.Goals as goal

pub returns-clause-decided : goal.returns-clause-decided
returns-clause-decided c = table.known

pub returns-clause-ends : goal.returns-clause-ends
returns-clause-ends c = ending.ends
