use Rattle.pr_ast.proofs.LongestSigns.{taken, not_taken}
use Rattle.pr_ast.proofs.lex.laws.longest_sign_is_taken.Goals as goal

pub returns-clause-taken : goal.returns-clause-taken
returns-clause-taken c = λ text sign n e. taken text sign n e

pub returns-clause-none : goal.returns-clause-none
returns-clause-none c = λ text place sign e h. not_taken text place e sign h
