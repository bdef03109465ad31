-- The printed kinds of why a text is no expression: the name of the kind, and then what it tells.
use Rattle.std.specs.Prelude.{ℕ, List, [], ◌++◌, codes}
use Rattle.pr_words.specs.Appending.{number_text}
use Rattle.pr_ast.specs.declared.lex.fault.LexKind.{LexKind}
use Rattle.pr_ast.specs.declared.lex.fault.LexKind.TheVariants as lex
use Rattle.pr_parse.specs.declared.fault.ParseKind.{ParseKind}
use Rattle.pr_parse.specs.declared.fault.ParseKind.TheVariants as parse
use Rattle.pr_types.specs.declared.kind.TypeKind.{TypeKind}
use Rattle.pr_types.specs.declared.kind.TypeKind.TheVariants as typing
use Rattle.pr_parse.specs.declared.query_kind.QueryKind.{QueryKind}
use Rattle.pr_parse.specs.declared.query_kind.QueryKind.TheVariants.{Lex, Parse, Typing}

unfoldable pub lex_word : LexKind → List ℕ
lex_word lex.BadChar = codes "BadChar"
lex_word lex.OpenText = codes "OpenText"
lex_word lex.BadEscape = codes "BadEscape"
lex_word lex.BadNumber = codes "BadNumber"
lex_word lex.TooWide = codes "TooWide"
lex_word lex.BadSpan = codes "BadSpan"
lex_word lex.SpanTooLong = codes "SpanTooLong"

unfoldable pub parse_word : ParseKind → List ℕ
parse_word parse.Unexpected = codes "Unexpected"
parse_word parse.End = codes "End"
parse_word parse.UnknownFunction = codes "UnknownFunction"
parse_word parse.Misplaced = codes "Misplaced"
parse_word parse.TwoNames = codes "TwoNames"
parse_word parse.ZeroSpan = codes "ZeroSpan"
parse_word parse.TooDeep = codes "TooDeep"

unfoldable pub type_word : TypeKind → List ℕ
type_word typing.WantScalar = codes "WantScalar"
type_word typing.WantVector = codes "WantVector"
type_word typing.WantRange = codes "WantRange"
type_word typing.WantText = codes "WantText"
type_word (typing.Arguments have least most) = codes "Arguments"
type_word typing.BoolNeeded = codes "BoolNeeded"
type_word typing.BoolMisplaced = codes "BoolMisplaced"
type_word typing.SetOnScalar = codes "SetOnScalar"
type_word typing.GroupOnSet = codes "GroupOnSet"
type_word typing.MatchOnScalar = codes "MatchOnScalar"
type_word typing.CopiedInOn = codes "CopiedInOn"
type_word typing.NoMatcher = codes "NoMatcher"
type_word typing.BadPattern = codes "BadPattern"
type_word typing.BadLabel = codes "BadLabel"
type_word typing.NotInstant = codes "NotInstant"
type_word (typing.Reach needed kept) = codes "Reach"
type_word typing.ZeroStep = codes "ZeroStep"

-- the numbers of arguments that there are, and at least and at most; milliseconds that are needed,
-- and kept
abbrev pub type_numbers : TypeKind → List ℕ
type_numbers (typing.Arguments have least most) = number_text have ++ number_text least ++ number_text most
type_numbers (typing.Reach needed kept) = number_text needed ++ number_text kept
type_numbers _ = []

abbrev pub type_text : TypeKind → List ℕ
type_text kind = type_word kind ++ type_numbers kind

-- a kind is printed by itself, wherever it comes from
abbrev pub kind_text : QueryKind → List ℕ
kind_text (Lex kind) = lex_word kind
kind_text (Parse kind) = parse_word kind
kind_text (Typing kind) = type_text kind
