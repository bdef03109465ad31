use Rattle.pr_ast.proofs.Unique.{one_list, one_fault, not_both}
use Rattle.pr_ast.proofs.lex.laws.tokens_or_one_fault.Goals as goal

pub returns-clause-tokens : goal.returns-clause-tokens
returns-clause-tokens c = λ text ts us d e. one_list d e

pub returns-clause-fault : goal.returns-clause-fault
returns-clause-fault c = λ text p q k j d e. one_fault d e

pub returns-clause-apart : goal.returns-clause-apart
returns-clause-apart c = λ text ts place kind d e. not_both d e
