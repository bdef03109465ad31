-- The first tokens of a text, or why it has none.
use Rattle.std.specs.Prelude.{◌≡◌, ℕ, List, take}
use Rattle.pr_ast.specs.declared.lex.token.Token.{Token}
use Rattle.pr_ast.specs.declared.lex.fault.LexError.{LexError}
use Rattle.pr_ast.specs.declared.lex.fault.LexError.TheVariants.{Fault, Memory as LexMemory}
use Rattle.pr_ast.specs.Tokens.{HasTokens}
use Rattle.pr_parse.specs.Seen.{Seen, seen_tokens}
use Rattle.pr_parse.specs.declared.fault.ParseError.{ParseError}
use Rattle.pr_parse.specs.declared.fault.ParseError.TheVariants.{Lex, Memory}

-- The first so many tokens of a text with their kinds, or all where it has fewer.
pub record HasFront (text : List ℕ) (most : ℕ) (front : List Seen) : Type 0 where
  pub tokens : List Token
  pub has : HasTokens text tokens
  pub is : front ≡ take most (seen_tokens tokens)

-- the fault of a text that has no tokens
abbrev pub token_fault : LexError → ParseError
token_fault (Fault at kind) = Lex at kind
token_fault LexMemory = Memory
