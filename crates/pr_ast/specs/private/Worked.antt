-- Words for worked texts.
use Rattle.std.specs.Prelude.{ℕ, ◌*◌, ◌^◌, List, [], ◌∷◌, pos}
use Rattle.pr_num.specs.declared.value.Num.TheVariants.{Finite}
use Rattle.pr_ast.specs.declared.lex.token.Token.{Token}
use Rattle.pr_ast.specs.declared.lex.token.TokenKind.{TokenKind}
use Rattle.pr_ast.specs.declared.lex.token.TokenKind.TheVariants.{Name, Number, Duration, Text, Sign}
use Rattle.pr_ast.specs.declared.lex.token.Sign.{Sign as SignName}

abbrev pub name : ℕ → ℕ → List ℕ → Token
name start end bytes = record { start = start; end = end; kind = Name bytes }

-- a number of units of 10^-9
abbrev pub number : ℕ → ℕ → ℕ → Token
number start end units = record { start = start; end = end; kind = Number (Finite (pos units)) }

abbrev pub duration : ℕ → ℕ → ℕ → Token
duration start end ms = record { start = start; end = end; kind = Duration ms }

abbrev pub string : ℕ → ℕ → List ℕ → Token
string start end bytes = record { start = start; end = end; kind = Text bytes }

abbrev pub sign : ℕ → ℕ → SignName → Token
sign start end s = record { start = start; end = end; kind = Sign s }
