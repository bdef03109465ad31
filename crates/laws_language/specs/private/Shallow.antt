-- Texts that are not too deep for an expression.
use Rattle.std.specs.Prelude.{ℕ, ◌≤◌, List}
use Rattle.pr_ast.specs.declared.lex.token.Token.{Token}
use Rattle.pr_ast.specs.Tokens.{HasTokens}
use Rattle.pr_parse.specs.Seen.{seen_tokens, kinds_seen}
use Rattle.pr_parse.specs.Deep.{depth}

-- The text has tokens, and their depth is at most 100.
pub record IsShallow (text : List ℕ) : Type 0 where
  pub tokens : List Token
  pub has : HasTokens text tokens
  pub low : depth (kinds_seen (seen_tokens tokens)) ≤ 100
