use Rattle.pr_ast.proofs.Spelling.{name_spelled}
use Rattle.pr_ast.proofs.lex.laws.names_are_spelled.Goals as goal

pub returns : goal.returns
returns c = name_spelled
