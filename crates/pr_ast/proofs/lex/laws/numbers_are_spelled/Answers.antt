use Rattle.pr_ast.proofs.SpelledNumbers.{number_spelled, printed_spelled}
use Rattle.pr_ast.proofs.lex.laws.numbers_are_spelled.Goals as goal

pub returns-clause-text : goal.returns-clause-text
returns-clause-text c = number_spelled

pub returns-clause-printed : goal.returns-clause-printed
returns-clause-printed c = printed_spelled
