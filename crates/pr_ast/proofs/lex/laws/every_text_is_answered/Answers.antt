use Rattle.std.proofs.Common.{ℕ, List, inl, inr, false}
use Rattle.std.specs.Prelude.{◌⊎◌}
use Rattle.pr_ast.specs.declared.lex.token.Token.{Token}
use Rattle.pr_ast.specs.declared.lex.fault.LexKind.{LexKind}
use Rattle.pr_ast.specs.Tokens.{HasTokens, HasFault}
use Rattle.pr_ast.proofs.Total.{IsAnswered, all_tokens, first_fault, answer_of}
use Rattle.pr_ast.proofs.lex.laws.every_text_is_answered.Goals as goal

either_way : (text : List ℕ) → IsAnswered false 0 text → ((tokens : List Token) × HasTokens text tokens) ⊎ ((place : ℕ) × ((kind : LexKind) × HasFault text place kind))
either_way text (all_tokens ts d) = inl (ts, d)
either_way text (first_fault place kind d) = inr (place, (kind, d))

pub returns : goal.returns
returns c = λ text. either_way text (answer_of text)
