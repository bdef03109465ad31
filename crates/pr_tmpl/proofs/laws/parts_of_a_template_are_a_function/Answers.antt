use Rattle.pr_tmpl.proofs.TemplateEnds.{parts_read, parts_given, place_given}
use Rattle.pr_tmpl.proofs.laws.parts_of_a_template_are_a_function.Goals as goal

pub returns-clause-reads : goal.returns-clause-reads
returns-clause-reads c = λ text parts e. parts_read text parts e

pub returns-clause-given : goal.returns-clause-given
returns-clause-given c = λ text parts d. parts_given text parts d

pub returns-clause-piece : goal.returns-clause-piece
returns-clause-piece c = λ text. place_given text
