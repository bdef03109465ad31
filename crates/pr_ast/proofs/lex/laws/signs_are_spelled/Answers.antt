use Rattle.pr_ast.proofs.Spelling.{sign_spelled}
use Rattle.pr_ast.proofs.lex.laws.signs_are_spelled.Goals as goal

pub returns : goal.returns
returns c = sign_spelled
