use Rattle.pr_ast.proofs.SpacedTokens.{tokens_again}
use Rattle.pr_ast.proofs.lex.laws.token_texts_have_the_tokens_again.Goals as goal

pub returns : goal.returns
returns c = λ text tokens d. tokens_again text tokens d
