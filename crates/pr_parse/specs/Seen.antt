-- Tokens as the grammar sees them.
use Rattle.std.specs.Prelude.{ℕ, ◌==◌, Bool, Option, Some, None, List, map, if◌then◌else◌}
use Prim.Native.Char.{code}
use Rattle.std.specs.List.{list_any}
use Rattle.std.specs.Str.{bytes_eq}
use Rattle.pr_ast.specs.pr_labels.LabelSet.{metric_label}
use Rattle.pr_ast.specs.declared.lex.token.Token.{Token}
use Rattle.pr_ast.specs.declared.lex.token.TokenKind.{TokenKind}
use Rattle.pr_ast.specs.declared.lex.token.TokenKind.TheVariants.{Name, Number as NumberToken, Duration, Text as TextToken, Sign as SignToken}
use Rattle.pr_ast.specs.declared.lex.words.Word.{Word as WordOf}
use Rattle.pr_ast.specs.Words.{word_of}
use Rattle.pr_ast.specs.declared.names.Func.{Func}
use Rattle.pr_ast.specs.declared.place.Place.{Place}
use Rattle.pr_ast.specs.Names.{func_of}
use Rattle.pr_parse.specs.declared.grammar.kind.TokenClass.{TokenClass}
use Rattle.pr_parse.specs.declared.grammar.kind.Lexed.{Lexed}
use Rattle.pr_parse.specs.declared.grammar.kind.TokenClass.TheVariants.{Number, Text, Span, ZeroSpan, Word, Function, OwnName, WithColon, Plain, Sign}

abbrev pub has_colon : List ℕ → Bool
has_colon text = list_any (λ b. b == code ":") text

abbrev pub other_name : List ℕ → TokenClass
other_name text = if bytes_eq text metric_label then OwnName else (if has_colon text then WithColon else Plain)

abbrev pub function_kind : Option Func → List ℕ → TokenClass
function_kind (Some func) text = Function func
function_kind None text = other_name text

abbrev pub word_kind : Option WordOf → List ℕ → TokenClass
word_kind (Some word) text = Word word
word_kind None text = function_kind (func_of text) text

-- a name is one of the words, a function's name, or another name
abbrev pub name_kind : List ℕ → TokenClass
name_kind text = word_kind (word_of text) text

abbrev pub kind_of : TokenKind → TokenClass
kind_of (Name text) = name_kind text
kind_of (NumberToken value) = Number
kind_of (Duration ms) = if ms == 0 then ZeroSpan else Span
kind_of (TextToken text) = Text
kind_of (SignToken sign) = Sign sign

-- a token with its kind
pub data Seen : Type 0 where
  lexed : TokenClass → Token → Seen

abbrev pub seen_token : Token → Seen
seen_token t = lexed (kind_of t.kind) t

abbrev pub seen_tokens : List Token → List Seen
seen_tokens = map seen_token

-- the kinds alone
abbrev pub kind_seen : Seen → TokenClass
kind_seen (lexed k t) = k

abbrev pub kinds_seen : List Seen → List TokenClass
kinds_seen = map kind_seen

-- the same of tokens whose kinds are worked out
abbrev pub see : Lexed → Seen
see x = lexed x.kind x.token

abbrev pub seen : List Lexed → List Seen
seen = map see

abbrev pub kinds_of : List Lexed → List TokenClass
kinds_of = map (λ (x : Lexed). x.kind)

abbrev pub place_of : Token → Place
place_of t = record { start = t.start; end = t.end }
