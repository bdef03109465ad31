-- Why a text has no tree: the kind of the first bad token.
use Rattle.std.specs.Prelude.{ℕ, zero, suc, Bool, true, false, Option, Some, None, List, [], ◌∷◌, take, map, slice_get, if◌then◌else◌}
use Rattle.pr_ast.specs.declared.lex.token.Sign.TheVariants.{LeftBrace, RightBrace, LeftParen, RightParen, LeftBracket, RightBracket, Comma, Colon}
use Rattle.pr_ast.specs.declared.lex.words.Word.TheVariants.{On, Ignoring, GroupLeft, GroupRight, Offset, By, Without}
use Rattle.pr_parse.specs.declared.grammar.kind.TokenClass.{TokenClass}
use Rattle.pr_parse.specs.declared.grammar.kind.TokenClass.TheVariants.{Span, ZeroSpan, Word, Function, OwnName, WithColon, Plain, Sign}
use Rattle.pr_parse.specs.declared.fault.ParseKind.{ParseKind}
use Rattle.pr_parse.specs.declared.fault.ParseKind.TheVariants.{Unexpected, End, UnknownFunction, Misplaced, TwoNames, ZeroSpan as ZeroSpanFault, TooDeep}
use Rattle.pr_parse.specs.declared.fault.Names.{Names}
use Rattle.pr_parse.specs.declared.fault.Names.TheVariants.{Elsewhere, InBraces, InLabels}

-- the words that labels in parentheses follow
abbrev pub begins_labels : Option TokenClass → Bool
begins_labels (Some (Word On)) = true
begins_labels (Some (Word Ignoring)) = true
begins_labels (Some (Word GroupLeft)) = true
begins_labels (Some (Word GroupRight)) = true
begins_labels (Some (Word By)) = true
begins_labels (Some (Word Without)) = true
begins_labels _ = false

-- whether names are labels after a token, and which token stood before that
abbrev pub names_after : Names → Option TokenClass → TokenClass → Names
names_after names before (Sign LeftBrace) = InBraces
names_after names before (Sign RightBrace) = Elsewhere
names_after names before (Sign LeftParen) = if begins_labels before then InLabels else Elsewhere
names_after names before (Sign RightParen) = Elsewhere
names_after names before k = names

abbrev pub names_from : Names → Option TokenClass → List TokenClass → Names
names_from names before [] = names
names_from names before (k ∷ ks) = names_from (names_after names before k) (Some k) ks

-- whether the token is a name that is read as a metric's or a label's, and no function's
abbrev pub is_called : Names → Option TokenClass → Bool
is_called Elsewhere (Some (Word w)) = false
is_called names (Some (Word w)) = true
is_called names (Some Plain) = true
is_called names (Some WithColon) = true
is_called names (Some OwnName) = true
is_called names _ = false

abbrev pub begins_matcher : Names → Option TokenClass → Bool
begins_matcher InBraces (Some (Sign LeftBrace)) = true
begins_matcher InBraces (Some (Sign Comma)) = true
begins_matcher names _ = false

abbrev pub begins_span : Option TokenClass → Bool
begins_span (Some (Sign LeftBracket)) = true
begins_span (Some (Sign Colon)) = true
begins_span _ = false

abbrev pub ends_range : Option TokenClass → Option TokenClass → Bool
ends_range (Some Span) (Some (Sign LeftBracket)) = true
ends_range _ _ = false

-- The kind of a bad token, by the names around it, the token before it, and the one before that.
abbrev pub kind_by : Names → Option TokenClass → Option TokenClass → Option TokenClass → ParseKind
kind_by names before second None = End
kind_by names before second (Some (Sign LeftParen)) = if is_called names before then UnknownFunction else Unexpected
kind_by names before second (Some (Sign LeftBracket)) = Misplaced
kind_by names before second (Some (Word Offset)) = Misplaced
kind_by names before second (Some (Sign RightBracket)) = if ends_range before second then Misplaced else Unexpected
kind_by names before second (Some OwnName) = if begins_matcher names before then TwoNames else Unexpected
kind_by names before second (Some ZeroSpan) = if begins_span before then ZeroSpanFault else Unexpected
kind_by names before second (Some k) = Unexpected

-- the token so many places before a place
abbrev pub kind_before : List TokenClass → ℕ → Option TokenClass
kind_before ks zero = None
kind_before ks (suc n) = slice_get ks n

abbrev pub second_before : List TokenClass → ℕ → Option TokenClass
second_before ks zero = None
second_before ks (suc n) = kind_before ks n

-- The kind of the first bad place among the tokens.
abbrev pub kind_at : List TokenClass → ℕ → ParseKind
kind_at ks place = kind_by (names_from Elsewhere None (take place ks)) (kind_before ks place) (second_before ks place) (slice_get ks place)
