-- The texts of tokens, each with a space after it, and what the tokens are without their places.
use Rattle.std.specs.Prelude.{ℕ, ◌-◌, List, ◌++◌, take, drop, map, flat_map, codes}
use Rattle.pr_ast.specs.declared.lex.token.Token.{Token}
use Rattle.pr_ast.specs.declared.lex.token.TokenKind.{TokenKind}

-- the bytes of a token in its text
abbrev pub slice : List ℕ → Token → List ℕ
slice text token = take (token.end - token.start) (drop token.start text)

-- the bytes of all tokens, each with a space after them
abbrev pub spaced : List ℕ → List Token → List ℕ
spaced text tokens = flat_map (λ token. slice text token ++ codes " ") tokens

abbrev pub kinds : List Token → List TokenKind
kinds = map (λ (token : Token). token.kind)
