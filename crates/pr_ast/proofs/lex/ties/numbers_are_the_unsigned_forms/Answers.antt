use Rattle.pr_ast.proofs.NumberForms.{form_read}
use Rattle.pr_ast.proofs.NumberKnown.{has_form}
use Rattle.pr_ast.proofs.lex.ties.numbers_are_the_unsigned_forms.Goals as goal

pub returns-clause-forms_are_read : goal.returns-clause-forms_are_read
returns-clause-forms_are_read c = λ whole f e h. form_read whole f e h

pub returns-clause-reads_have_the_form : goal.returns-clause-reads_have_the_form
returns-clause-reads_have_the_form c = λ text v d. has_form text v d
