-- The grammar of the query language.
use Rattle.std.specs.Prelude.{ℕ, Bool, true, false, Option, Some, None, List, [], ◌∷◌, option_map, if◌then◌else◌}
use Rattle.pr_ast.specs.pr_num.declared.value.Num.{Num}
use Rattle.pr_ast.specs.pr_num.declared.value.Num.TheVariants.{NaN as NaNValue, PosInf}
use Rattle.pr_forms.specs.Form.{Form, token, nothing, pair, either, fold, rule}
use Rattle.pr_ast.specs.declared.lex.token.TokenKind.{TokenKind}
use Rattle.pr_ast.specs.declared.lex.token.TokenKind.TheVariants.{Name as NameToken, Number as NumberToken, Duration as DurationToken, Text as TextToken}
use Rattle.pr_ast.specs.declared.lex.token.Sign.{Sign as SignKind}
use Rattle.pr_ast.specs.declared.lex.token.Sign.TheVariants.{LeftBrace, RightBrace, LeftParen, RightParen, LeftBracket, RightBracket, Comma, Colon, Assign, NotEqual as NotEqualSign, Like as LikeSign, NotLike as NotLikeSign, Equal as EqualSign, Less as LessSign, LessEqual as LessEqualSign, Greater as GreaterSign, GreaterEqual as GreaterEqualSign, Plus, Minus, Star, Slash, Percent}
use Rattle.pr_ast.specs.declared.lex.words.Word.{Word as WordKind}
use Rattle.pr_ast.specs.declared.lex.words.Word.TheVariants.{And as AndWord, Or as OrWord, Unless as UnlessWord, On, Ignoring, GroupLeft, GroupRight, Bool as BoolWord, Offset, By, Without, Sum as SumWord, Avg as AvgWord, Min as MinWord, Max as MaxWord, Count as CountWord, Group as GroupWord, TopK as TopKWord, BottomK as BottomKWord, Quantile as QuantileWord, CountValues as CountValuesWord, Inf, NaN}
use Rattle.pr_ast.specs.pr_labels.declared.grouping.Grouping.{Grouping}
use Rattle.pr_ast.specs.pr_labels.declared.matching.Matching.{Matching}
use Rattle.pr_ast.specs.pr_labels.declared.matching.Card.{Card}
use Rattle.pr_ast.specs.pr_labels.declared.matching.Card.TheVariants.{OneToOne, ManyToOne, OneToMany}
use Rattle.pr_ast.specs.declared.place.Place.{Place}
use Rattle.pr_ast.specs.declared.selector.Selector.{Selector}
use Rattle.pr_ast.specs.declared.selector.MatchText.{MatchText}
use Rattle.pr_ast.specs.declared.selector.MatchSign.{MatchSign}
use Rattle.pr_ast.specs.declared.selector.MatchSign.TheVariants.{Equal as EqualMatch, NotEqual as NotEqualMatch, Like as LikeMatch, NotLike as NotLikeMatch}
use Rattle.pr_ast.specs.declared.names.Func.{Func}
use Rattle.pr_ast.specs.declared.names.AggOp.{AggOp}
use Rattle.pr_ast.specs.Names.{agg_of}
use Rattle.pr_ast.specs.declared.names.BinOp.{BinOp}
use Rattle.pr_ast.specs.declared.names.BinOp.TheVariants.{Or as OrOp, And as AndOp, Unless as UnlessOp, Equal as EqualOp, NotEqual as NotEqualOp, LessEqual as LessEqualOp, Less as LessOp, GreaterEqual as GreaterEqualOp, Greater as GreaterOp, Add, Sub as SubOp, Mul, Div, Rem}
use Rattle.pr_ast.specs.Tree.{Tree, number, text, select, range, sub, neg, binary, call, aggregate, none, more}
use Rattle.pr_parse.specs.declared.grammar.kind.TokenClass.{TokenClass}
use Rattle.pr_parse.specs.declared.grammar.kind.TokenClass.TheVariants.{Number, Text, Span, ZeroSpan, Word, Function, OwnName, WithColon, Plain, Sign}
use Rattle.pr_parse.specs.declared.grammar.kind.Level.{Level}
use Rattle.pr_parse.specs.declared.grammar.kind.Level.TheVariants.{Or, And, Comparison, Sum, Product}
use Rattle.pr_parse.specs.declared.grammar.kind.Before.{Before}
use Rattle.pr_parse.specs.declared.grammar.kind.Before.TheVariants.{Selector as Selectors, Range as Ranges, Other as Others}
use Rattle.pr_parse.specs.Seen.{Seen, lexed, place_of}

-- What follows a primary: brackets with a span, brackets of a subquery with a span and maybe a
-- step, or an offset; each with the place of its last token.
pub data Suffix : Type 0 where
  in_range : ℕ → Place → Suffix
  in_subquery : ℕ → Option ℕ → Place → Suffix
  by_offset : ℕ → Place → Suffix

-- What stands for a part of a text.
pub data QueryValue : Type 0 where
  -- an expression, with the place of its text, parentheses and signs around it included
  part : Place → Tree → QueryValue
  -- a sign or a word
  at : Place → QueryValue
  -- a name, a span and a string
  word : Place → List ℕ → QueryValue
  lasting : Place → ℕ → QueryValue
  quoted : List ℕ → QueryValue
  -- an operator; its right side with what stands before it; both
  operation : BinOp → QueryValue
  operand : Bool → Option Matching → Place → Tree → QueryValue
  turn : BinOp → Bool → Option Matching → Place → Tree → QueryValue
  -- whether names are matched `on` or ignored; which side has many elements; a right side with the
  -- names that are included, with the side, and with the names that are matched
  matches : Bool → QueryValue
  sided : Card → QueryValue
  included : List (List ℕ) → Place → Tree → QueryValue
  grouped : Card → List (List ℕ) → Place → Tree → QueryValue
  paired : List (List ℕ) → Card → List (List ℕ) → Place → Tree → QueryValue
  -- whether a unary sign is a minus
  signed : Bool → Place → QueryValue
  -- names, and names with the sign that closes them
  names : List (List ℕ) → QueryValue
  labels : List (List ℕ) → Place → QueryValue
  -- a matcher's sign; a sign with its string; matchers; matchers with the sign that closes them,
  -- and in braces; that there are none
  match_sign : MatchSign → QueryValue
  match_text : MatchSign → List ℕ → QueryValue
  matching : MatchSign → List ℕ → List MatchText → QueryValue
  matchers : List MatchText → QueryValue
  ended : List MatchText → Place → QueryValue
  braced : List MatchText → Place → QueryValue
  bare : QueryValue
  -- what follows a primary; the same after the bracket that closes a range, and after that of a
  -- subquery
  suffixes : List Suffix → QueryValue
  ranged : Place → List Suffix → QueryValue
  stepped : Option ℕ → Place → List Suffix → QueryValue
  -- what follows a name: matchers, and suffixes
  selection : QueryValue → List Suffix → QueryValue
  -- a function, arguments, arguments with the sign that closes them, and with what follows that
  function : Func → Place → List ℕ → QueryValue
  arguments : Tree → QueryValue
  closed : Tree → Place → QueryValue
  called : Tree → Place → List Suffix → QueryValue
  -- an aggregation, whether it is `by` names, its grouping, and what stands after its name
  aggregator : AggOp → Place → QueryValue
  grouper : Bool → QueryValue
  grouping : Grouping → Place → QueryValue
  aggregation : Grouping → Tree → Place → QueryValue
  -- what no text has
  mark : QueryValue

-- The rules. A flag says whether an operand may begin with a parenthesis; for matchers whether a
-- name stands before them.
pub data Rule : Type 0 where
  Binary : Level → Bool → Rule
  Modified : Level → Rule
  Matched : Level → Rule
  Grouped : Level → Rule
  Included : Level → Rule
  Unary : Bool → Rule
  Postfix : Bool → Rule
  Operand : Rule
  Labels : Rule
  MoreLabels : Rule
  Matchers : Bool → Rule
  MoreMatchers : Bool → Rule
  Braced : Rule
  Selection : Rule
  Tail : Rule
  Arguments : Rule
  Aggregation : Rule
  Parameters : Rule
  After : Before → Rule
  InSelector : Rule
  SelectorSpan : Rule
  InOther : Rule
  Step : Rule
  Closing : Rule
  Shift : Rule

-- whether two signs, and two words, are the same
abbrev pub same_sign : SignKind → SignKind → Bool
same_sign LeftBrace LeftBrace = true
same_sign RightBrace RightBrace = true
same_sign LeftParen LeftParen = true
same_sign RightParen RightParen = true
same_sign LeftBracket LeftBracket = true
same_sign RightBracket RightBracket = true
same_sign Comma Comma = true
same_sign Colon Colon = true
same_sign Assign Assign = true
same_sign NotEqualSign NotEqualSign = true
same_sign LikeSign LikeSign = true
same_sign NotLikeSign NotLikeSign = true
same_sign EqualSign EqualSign = true
same_sign LessSign LessSign = true
same_sign LessEqualSign LessEqualSign = true
same_sign GreaterSign GreaterSign = true
same_sign GreaterEqualSign GreaterEqualSign = true
same_sign Plus Plus = true
same_sign Minus Minus = true
same_sign Star Star = true
same_sign Slash Slash = true
same_sign Percent Percent = true
same_sign _ _ = false

abbrev pub same_word : WordKind → WordKind → Bool
same_word AndWord AndWord = true
same_word OrWord OrWord = true
same_word UnlessWord UnlessWord = true
same_word On On = true
same_word Ignoring Ignoring = true
same_word GroupLeft GroupLeft = true
same_word GroupRight GroupRight = true
same_word BoolWord BoolWord = true
same_word Offset Offset = true
same_word By By = true
same_word Without Without = true
same_word SumWord SumWord = true
same_word AvgWord AvgWord = true
same_word MinWord MinWord = true
same_word MaxWord MaxWord = true
same_word CountWord CountWord = true
same_word GroupWord GroupWord = true
same_word TopKWord TopKWord = true
same_word BottomKWord BottomKWord = true
same_word QuantileWord QuantileWord = true
same_word CountValuesWord CountValuesWord = true
same_word Inf Inf = true
same_word NaN NaN = true
same_word _ _ = false

abbrev pub is_sign : SignKind → TokenClass → Bool
is_sign wanted (Sign s) = same_sign wanted s
is_sign wanted _ = false

abbrev pub is_word : WordKind → TokenClass → Bool
is_word wanted (Word w) = same_word wanted w
is_word wanted _ = false

-- what a token holds
abbrev pub text_of : TokenKind → List ℕ
text_of (NameToken t) = t
text_of (TextToken t) = t
text_of _ = []

abbrev pub span_of : TokenKind → ℕ
span_of (DurationToken ms) = ms
span_of _ = 0

abbrev pub number_of : TokenKind → Num
number_of (NumberToken v) = v
number_of _ = NaNValue

abbrev pub sign_at : SignKind → Seen → Option QueryValue
sign_at wanted (lexed k t) = if is_sign wanted k then Some (at (place_of t)) else None

abbrev pub word_at : WordKind → Seen → Option QueryValue
word_at wanted (lexed k t) = if is_word wanted k then Some (at (place_of t)) else None

-- the operators of each level
abbrev pub word_operator : Level → WordKind → Option BinOp
word_operator Or OrWord = Some OrOp
word_operator And AndWord = Some AndOp
word_operator And UnlessWord = Some UnlessOp
word_operator _ _ = None

abbrev pub sign_operator : Level → SignKind → Option BinOp
sign_operator Comparison EqualSign = Some EqualOp
sign_operator Comparison NotEqualSign = Some NotEqualOp
sign_operator Comparison LessEqualSign = Some LessEqualOp
sign_operator Comparison LessSign = Some LessOp
sign_operator Comparison GreaterEqualSign = Some GreaterEqualOp
sign_operator Comparison GreaterSign = Some GreaterOp
sign_operator Sum Plus = Some Add
sign_operator Sum Minus = Some SubOp
sign_operator Product Star = Some Mul
sign_operator Product Slash = Some Div
sign_operator Product Percent = Some Rem
sign_operator _ _ = None

abbrev pub operator_of : Level → TokenClass → Option BinOp
operator_of l (Word w) = word_operator l w
operator_of l (Sign s) = sign_operator l s
operator_of l _ = None

-- `on` or `ignoring`, `by` or `without`, `-` or `+`: true for the first
abbrev pub matching_of : TokenClass → Option Bool
matching_of (Word On) = Some true
matching_of (Word Ignoring) = Some false
matching_of _ = None

abbrev pub grouping_of : TokenClass → Option Bool
grouping_of (Word By) = Some true
grouping_of (Word Without) = Some false
grouping_of _ = None

abbrev pub minus_of : TokenClass → Option Bool
minus_of (Sign Minus) = Some true
minus_of (Sign Plus) = Some false
minus_of _ = None

abbrev pub side_of : TokenClass → Option Card
side_of (Word GroupLeft) = Some ManyToOne
side_of (Word GroupRight) = Some OneToMany
side_of _ = None

abbrev pub match_of : TokenClass → Option MatchSign
match_of (Sign Assign) = Some EqualMatch
match_of (Sign NotEqualSign) = Some NotEqualMatch
match_of (Sign LikeSign) = Some LikeMatch
match_of (Sign NotLikeSign) = Some NotLikeMatch
match_of _ = None

abbrev pub aggregate_of : TokenClass → Option AggOp
aggregate_of (Word w) = agg_of w
aggregate_of _ = None

abbrev pub function_of : TokenClass → Option Func
function_of (Function f) = Some f
function_of _ = None

abbrev pub operator_at : Level → Seen → Option QueryValue
operator_at l (lexed k t) = option_map operation (operator_of l k)

abbrev pub matching_at : Seen → Option QueryValue
matching_at (lexed k t) = option_map matches (matching_of k)

abbrev pub grouping_at : Seen → Option QueryValue
grouping_at (lexed k t) = option_map grouper (grouping_of k)

abbrev pub minus_at : Seen → Option QueryValue
minus_at (lexed k t) = option_map (λ b. signed b (place_of t)) (minus_of k)

abbrev pub side_at : Seen → Option QueryValue
side_at (lexed k t) = option_map sided (side_of k)

abbrev pub match_at : Seen → Option QueryValue
match_at (lexed k t) = option_map match_sign (match_of k)

abbrev pub aggregate_at : Seen → Option QueryValue
aggregate_at (lexed k t) = option_map (λ op. aggregator op (place_of t)) (aggregate_of k)

abbrev pub function_at : Seen → Option QueryValue
function_at (lexed k t) = option_map (λ f. function f (place_of t) (text_of t.kind)) (function_of k)

-- A label is a name without a colon; after a metric's name it is not `__name__`.
abbrev pub is_label : Bool → TokenClass → Bool
is_label named (Word w) = true
is_label named (Function f) = true
is_label named Plain = true
is_label false OwnName = true
is_label named _ = false

abbrev pub label_at : Bool → Seen → Option QueryValue
label_at named (lexed k t) = if is_label named k then Some (word (place_of t) (text_of t.kind)) else None

-- a metric's name that is no function's
abbrev pub is_metric : TokenClass → Bool
is_metric Plain = true
is_metric WithColon = true
is_metric OwnName = true
is_metric _ = false

abbrev pub metric_at : Seen → Option QueryValue
metric_at (lexed k t) = if is_metric k then Some (word (place_of t) (text_of t.kind)) else None

-- a number, an infinity, no number, or a string
abbrev pub literal_of : TokenClass → TokenKind → Place → Option Tree
literal_of Number t p = Some (number p (number_of t))
literal_of Text t p = Some (text p (text_of t))
literal_of (Word Inf) t p = Some (number p PosInf)
literal_of (Word NaN) t p = Some (number p NaNValue)
literal_of _ t p = None

abbrev pub literal_at : Seen → Option QueryValue
literal_at (lexed k t) = option_map (part (place_of t)) (literal_of k t.kind (place_of t))

abbrev pub is_text : TokenClass → Bool
is_text Text = true
is_text _ = false

abbrev pub text_at : Seen → Option QueryValue
text_at (lexed k t) = if is_text k then Some (quoted (text_of t.kind)) else None

-- a span that is not 0, and any span
abbrev pub is_span : TokenClass → Bool
is_span Span = true
is_span _ = false

abbrev pub is_shift : TokenClass → Bool
is_shift ZeroSpan = true
is_shift k = is_span k

abbrev pub span_at : Seen → Option QueryValue
span_at (lexed k t) = if is_span k then Some (lasting (place_of t) (span_of t.kind)) else None

abbrev pub shift_at : Seen → Option QueryValue
shift_at (lexed k t) = if is_shift k then Some (lasting (place_of t) (span_of t.kind)) else None

-- from the start of one place to the end of another
abbrev pub through : Place → Place → Place
through p q = record { start = p.start; end = q.end }

-- how the values of parts are joined
abbrev pub second_of : QueryValue → QueryValue → QueryValue
second_of v w = w

abbrev pub joined : QueryValue → QueryValue → QueryValue
joined (part p l) (turn o b m q r) = part (through p q) (binary (through p q) o b m l r)
joined _ _ = mark

abbrev pub turned : QueryValue → QueryValue → QueryValue
turned (operation o) (operand b m q r) = turn o b m q r
turned _ _ = mark

abbrev pub with_bool : QueryValue → QueryValue → QueryValue
with_bool v (operand b m q r) = operand true m q r
with_bool _ _ = mark

abbrev pub unmatched : QueryValue → QueryValue → QueryValue
unmatched v (part q r) = operand false None q r
unmatched _ _ = mark

abbrev pub matched : QueryValue → QueryValue → QueryValue
matched (matches on) (paired ns card include q r) = operand false (Some (record { on = on; names = ns; card = card; include = include })) q r
matched _ _ = mark

abbrev pub named_by : QueryValue → QueryValue → QueryValue
named_by (labels ns p) (grouped card include q r) = paired ns card include q r
named_by _ _ = mark

abbrev pub ungrouped : QueryValue → QueryValue → QueryValue
ungrouped v (part q r) = grouped OneToOne [] q r
ungrouped _ _ = mark

abbrev pub grouped_by : QueryValue → QueryValue → QueryValue
grouped_by (sided card) (included ns q r) = grouped card ns q r
grouped_by _ _ = mark

abbrev pub including : QueryValue → QueryValue → QueryValue
including (labels ns p) (part q r) = included ns q r
including _ _ = mark

abbrev pub including_none : QueryValue → QueryValue → QueryValue
including_none v (part q r) = included [] q r
including_none _ _ = mark

abbrev pub signed_by : QueryValue → QueryValue → QueryValue
signed_by (signed true p) (part q t) = part (through p q) (neg (through p q) t)
signed_by (signed false p) (part q t) = part (through p q) t
signed_by _ _ = mark

abbrev pub opened_by : QueryValue → QueryValue → QueryValue
opened_by (at p) (part q t) = part (through p q) t
opened_by _ _ = mark

abbrev pub closed_by : QueryValue → QueryValue → QueryValue
closed_by (part p t) (at q) = part (through p q) t
closed_by _ _ = mark

-- names in parentheses
abbrev pub name_first : QueryValue → QueryValue → QueryValue
name_first (word p n) (names ns) = names (n ∷ ns)
name_first _ _ = mark

abbrev pub names_closed : QueryValue → QueryValue → QueryValue
names_closed (names ns) (at q) = labels ns q
names_closed _ _ = mark

-- matchers in braces
abbrev pub match_of_text : QueryValue → QueryValue → QueryValue
match_of_text (match_sign s) (quoted t) = match_text s t
match_of_text _ _ = mark

abbrev pub match_before : QueryValue → QueryValue → QueryValue
match_before (match_text s t) (matchers ms) = matching s t ms
match_before _ _ = mark

abbrev pub match_first : QueryValue → QueryValue → QueryValue
match_first (word p n) (matching s t ms) = matchers (record { label = n; op = s; text = t } ∷ ms)
match_first _ _ = mark

abbrev pub matchers_closed : QueryValue → QueryValue → QueryValue
matchers_closed (matchers ms) (at q) = ended ms q
matchers_closed _ _ = mark

abbrev pub matchers_opened : QueryValue → QueryValue → QueryValue
matchers_opened (at p) (ended ms q) = braced ms (through p q)
matchers_opened _ _ = mark

-- what follows a primary, applied to it one after another
abbrev pub selector_of : Option (List ℕ) → List MatchText → Selector
selector_of name ms = record { name = name; matchers = ms; offset = 0 }

abbrev pub moved : Selector → ℕ → Selector
moved s offset = record { name = s.name; matchers = s.matchers; offset = offset }

abbrev pub range_made : Place → ℕ → Tree → Tree
range_made p d (select q s) = range p s d
range_made p d t = t

abbrev pub offset_set : Place → ℕ → Tree → Tree
offset_set p d (select q s) = select p (moved s d)
offset_set p d (range q s span) = range p (moved s d) span
offset_set p d (sub q t span step offset) = sub p t span step d
offset_set p d t = t

abbrev pub applied_to : Place → Tree → List Suffix → QueryValue
applied_to p t [] = part p t
applied_to p t (in_range d q ∷ ss) = applied_to (through p q) (range_made (through p q) d t) ss
applied_to p t (in_subquery d step q ∷ ss) = applied_to (through p q) (sub (through p q) t d step 0) ss
applied_to p t (by_offset d q ∷ ss) = applied_to (through p q) (offset_set (through p q) d t) ss

abbrev pub applied : QueryValue → QueryValue → QueryValue
applied (part p t) (suffixes ss) = applied_to p t ss
applied _ _ = mark

abbrev pub shifted : QueryValue → QueryValue → QueryValue
shifted (lasting q d) (suffixes ss) = suffixes (by_offset d q ∷ ss)
shifted _ _ = mark

abbrev pub bracketed : QueryValue → QueryValue → QueryValue
bracketed (lasting p d) (ranged q ss) = suffixes (in_range d q ∷ ss)
bracketed (lasting p d) (stepped step q ss) = suffixes (in_subquery d step q ∷ ss)
bracketed _ _ = mark

abbrev pub range_closed : QueryValue → QueryValue → QueryValue
range_closed (at q) (suffixes ss) = ranged q ss
range_closed _ _ = mark

abbrev pub step_closed : QueryValue → QueryValue → QueryValue
step_closed (at q) (suffixes ss) = stepped None q ss
step_closed _ _ = mark

abbrev pub with_step : QueryValue → QueryValue → QueryValue
with_step (lasting p d) (stepped step q ss) = stepped (Some d) q ss
with_step _ _ = mark

-- a name with matchers, or alone; matchers alone
abbrev pub selecting : QueryValue → QueryValue → QueryValue
selecting v (suffixes ss) = selection v ss
selecting _ _ = mark

abbrev pub named : QueryValue → QueryValue → QueryValue
named (word p n) (selection bare ss) = applied_to p (select p (selector_of (Some n) [])) ss
named (word p n) (selection (braced ms q) ss) = applied_to (through p q) (select (through p q) (selector_of (Some n) ms)) ss
named _ _ = mark

abbrev pub unnamed : QueryValue → QueryValue → QueryValue
unnamed (braced ms q) (suffixes ss) = applied_to q (select q (selector_of None ms)) ss
unnamed _ _ = mark

-- a function with its arguments, or a metric that has its name
abbrev pub function_called : QueryValue → QueryValue → QueryValue
function_called (function f p n) (called ts q ss) = applied_to (through p q) (call (through p q) f ts) ss
function_called (function f p n) v = named (word p n) v
function_called _ _ = mark

abbrev pub argument : QueryValue → QueryValue → QueryValue
argument (arguments ts) (part p t) = arguments (more ts t)
argument _ _ = mark

abbrev pub arguments_closed : QueryValue → QueryValue → QueryValue
arguments_closed (arguments ts) (at q) = closed ts q
arguments_closed _ _ = mark

abbrev pub arguments_followed : QueryValue → QueryValue → QueryValue
arguments_followed (closed ts q) (suffixes ss) = called ts q ss
arguments_followed _ _ = mark

-- an aggregation, whose grouping stands before its arguments or after them
abbrev pub grouping_by : Bool → List (List ℕ) → Grouping
grouping_by by ns = record { by = by; names = ns }

abbrev pub no_grouping : Grouping
no_grouping = grouping_by true []

abbrev pub grouping_made : QueryValue → QueryValue → QueryValue
grouping_made (grouper by) (labels ns q) = grouping (grouping_by by ns) q
grouping_made _ _ = mark

abbrev pub grouped_before : QueryValue → QueryValue → QueryValue
grouped_before (grouping g p) (closed ts q) = aggregation g ts q
grouped_before _ _ = mark

abbrev pub grouped_after : QueryValue → QueryValue → QueryValue
grouped_after (closed ts q) (grouping g p) = aggregation g ts p
grouped_after (closed ts q) bare = aggregation no_grouping ts q
grouped_after _ _ = mark

abbrev pub aggregation_made : QueryValue → QueryValue → QueryValue
aggregation_made (aggregator op p) (aggregation g ts q) = part (through p q) (aggregate (through p q) op g ts)
aggregation_made _ _ = mark

abbrev pub parameter : QueryValue → QueryValue → QueryValue
parameter (part p t) (part q u) = arguments (more (more none t) u)
parameter (part p t) bare = arguments (more none t)
parameter _ _ = mark

-- forms of one token
abbrev pub F : Type 0
F = Form Seen Rule QueryValue

abbrev pub sign : SignKind → F
sign s = token (sign_at s)

abbrev pub the_word : WordKind → F
the_word w = token (word_at w)

abbrev pub operator : Level → F
operator l = token (operator_at l)

-- the rule of the operands of a level
abbrev pub tighter : Level → Bool → Rule
tighter Or p = Binary And p
tighter And p = Binary Comparison p
tighter Comparison p = Binary Sum p
tighter Sum p = Binary Product p
tighter Product p = Unary p

abbrev pub expression : Rule
expression = Binary Or true

-- names in parentheses
abbrev pub label_list : F
label_list = pair second_of (sign LeftParen) (pair names_closed (rule Labels) (sign RightParen))

-- matchers in braces, and one of them
abbrev pub matchers_end : Bool → F
matchers_end named = pair matchers_closed (rule (Matchers named)) (sign RightBrace)

abbrev pub matcher_list : Bool → F
matcher_list named = pair matchers_opened (sign LeftBrace) (matchers_end named)

abbrev pub sign_and_text : F
sign_and_text = pair match_of_text (token match_at) (token text_at)

abbrev pub matcher : Bool → F
matcher named = pair match_first (token (label_at named)) (pair match_before sign_and_text (rule (MoreMatchers named)))

-- the grouping of an aggregation, and its arguments in parentheses
abbrev pub group : F
group = pair grouping_made (token grouping_at) label_list

abbrev pub parameters : F
parameters = pair second_of (sign LeftParen) (pair arguments_closed (rule Parameters) (sign RightParen))

-- what follows an opening parenthesis
abbrev pub enclosed : F
enclosed = pair closed_by (rule expression) (sign RightParen)

abbrev pub unnamed_selector : F
unnamed_selector = pair unnamed (matcher_list false) (rule (After Selectors))

-- an operator with its right side
abbrev pub right_side : Level → F
right_side l = pair turned (operator l) (rule (Modified l))

abbrev pub next_argument : F
next_argument = pair second_of (sign Comma) (rule expression)

abbrev pub some_arguments : F
some_arguments = fold argument (pair argument (nothing (arguments none)) (rule expression)) next_argument

-- The grammar, as a person reads it:
--   expr    = and { "or" mods and }
--   and     = cmp { ("and" | "unless") mods cmp }
--   cmp     = sum { ("==" | "!=" | "<=" | "<" | ">=" | ">") mods sum }
--   sum     = prod { ("+" | "-") mods prod }
--   prod    = unary { ("*" | "/" | "%") mods unary }
--   unary   = ("+" | "-") unary | postfix
--   mods    = ["bool"] [("on" | "ignoring") labels [("group_left" | "group_right") [labels]]]
--   labels  = "(" [ label { "," label } [","] ] ")"
--   postfix = primary { "[" duration "]" | "[" duration ":" [duration] "]" | "offset" duration }
--   primary = number | string | "(" expr ")" | name [braces] | braces
--           | function "(" [ expr { "," expr } ] ")"
--           | aggregation [group] "(" expr ["," expr] ")"
--           | aggregation "(" expr ["," expr] ")" group
--   group   = ("by" | "without") labels
--   braces  = "{" [ matcher { "," matcher } [","] ] "}"
--   matcher = label ("=" | "!=" | "=~" | "!~") string
-- How it is split, so that one token ahead decides it:
--   expr .. prod    Binary of a level. Its flag says whether a parenthesis may come first: not
--                   after a `group_left` or `group_right` without labels, whose labels that
--                   parenthesis would begin.
--   mods            Modified ("bool"), Matched ("on" labels), Grouped ("group_left"), Included
--                   (its labels): each with all that follows up to the right side's end, since
--                   the flag of the right side depends on them.
--   unary, postfix  Unary, and Postfix for parentheses.
--   primary         Operand, with what may follow it: Selection (a name's braces), Tail (a
--                   function's arguments, or a metric with the name of a function), Aggregation
--                   (a group before or after), Parameters (its one or two arguments), Arguments.
--   after it        After a selector, a range or subquery, or anything else: so a range stands
--                   directly after a selector, and an offset once, after a selector, a range or
--                   a subquery. InSelector, SelectorSpan, InOther, Step, Closing and Shift are
--                   what stands in brackets and after "offset".
--   labels, braces  `label_list` with Labels and MoreLabels, `matcher_list` with Matchers and
--                   MoreMatchers: with a comma before more of them or before the end. The flag
--                   of Matchers says that a metric's name stands before.
abbrev pub production : Rule → F
production (Binary l p) = fold joined (rule (tighter l p)) (right_side l)
production (Modified l) = either (pair with_bool (the_word BoolWord) (rule (Matched l))) (rule (Matched l))
production (Matched l) = either (pair matched (token matching_at) (pair named_by label_list (rule (Grouped l)))) (pair unmatched (nothing mark) (rule (tighter l true)))
production (Grouped l) = either (pair grouped_by (token side_at) (rule (Included l))) (pair ungrouped (nothing mark) (rule (tighter l true)))
production (Included l) = either (pair including label_list (rule (tighter l true))) (pair including_none (nothing mark) (rule (tighter l false)))
production (Unary p) = either (pair signed_by (token minus_at) (rule (Unary true))) (rule (Postfix p))
production (Postfix true) = either (pair applied (pair opened_by (sign LeftParen) enclosed) (rule (After Others))) (rule Operand)
production (Postfix false) = rule Operand
production Operand = either (pair applied (token literal_at) (rule (After Others)))
    (either (pair named (token metric_at) (rule Selection))
    (either (pair function_called (token function_at) (rule Tail))
    (either (pair applied (pair aggregation_made (token aggregate_at) (rule Aggregation)) (rule (After Others)))
    unnamed_selector)))
production Labels = either (pair name_first (token (label_at false)) (rule MoreLabels)) (nothing (names []))
production MoreLabels = either (pair second_of (sign Comma) (rule Labels)) (nothing (names []))
production (Matchers named) = either (matcher named) (nothing (matchers []))
production (MoreMatchers named) = either (pair second_of (sign Comma) (rule (Matchers named))) (nothing (matchers []))
production Braced = either (matcher_list true) (nothing bare)
production Selection = pair selecting (rule Braced) (rule (After Selectors))
production Tail = either (pair second_of (sign LeftParen) (pair arguments_followed (pair arguments_closed (rule Arguments) (sign RightParen)) (rule (After Others)))) (rule Selection)
production Arguments = either some_arguments (nothing (arguments none))
production Aggregation = either (pair grouped_before group parameters) (pair grouped_after parameters (either group (nothing bare)))
production Parameters = pair parameter (rule expression) (either (pair second_of (sign Comma) (rule expression)) (nothing bare))
production (After Selectors) = either (pair second_of (sign LeftBracket) (rule InSelector)) (either (pair second_of (the_word Offset) (rule Shift)) (nothing (suffixes [])))
production (After Ranges) = either (pair second_of (the_word Offset) (rule Shift)) (rule (After Others))
production (After Others) = either (pair second_of (sign LeftBracket) (rule InOther)) (nothing (suffixes []))
production InSelector = pair bracketed (token span_at) (rule SelectorSpan)
production SelectorSpan = either (pair range_closed (sign RightBracket) (rule (After Ranges))) (pair second_of (sign Colon) (rule Step))
production InOther = pair bracketed (token span_at) (pair second_of (sign Colon) (rule Step))
production Step = either (pair with_step (token span_at) (rule Closing)) (rule Closing)
production Closing = pair step_closed (sign RightBracket) (rule (After Ranges))
production Shift = pair shifted (token shift_at) (rule (After Others))
