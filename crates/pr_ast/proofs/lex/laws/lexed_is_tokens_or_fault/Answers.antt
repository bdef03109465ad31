use Rattle.pr_ast.proofs.LexedLaws.{tokens_both, fault_both}
use Rattle.pr_ast.proofs.lex.laws.lexed_is_tokens_or_fault.Goals as goal

pub returns-clause-tokens : goal.returns-clause-tokens
returns-clause-tokens c = λ text ts. tokens_both text ts

pub returns-clause-fault : goal.returns-clause-fault
returns-clause-fault c = λ text place kind. fault_both text place kind
