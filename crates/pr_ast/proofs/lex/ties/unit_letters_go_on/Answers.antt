use Rattle.pr_ast.proofs.UnitLetters.{with_unit, goes_on}
use Rattle.pr_ast.proofs.lex.ties.unit_letters_go_on.Goals as goal

pub returns-clause-whole : goal.returns-clause-whole
returns-clause-whole c = λ ds b some h k. with_unit ds b some h k

pub returns-clause-only : goal.returns-clause-only
returns-clause-only c = λ ds b some h i x. goes_on ds b some h i x
