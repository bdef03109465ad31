use Rattle.pr_ast.proofs.Spelling.{found}
use Rattle.pr_ast.proofs.lex.laws.spelled_texts_have_their_tokens.Goals as goal

pub returns : goal.returns
returns c = λ text ks s. let r = found 0 s in (r.tokens, r.are, r.kinds)
