use Rattle.pr_ast.proofs.NumberTable.{known}
use Rattle.pr_ast.proofs.lex.laws.one_byte_decides_numbers.Goals as goal

pub returns : goal.returns
returns c = known
