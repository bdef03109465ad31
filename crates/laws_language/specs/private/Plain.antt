-- The grammar of the query language as a person reads it. `pr_parse::grammar` has it split, so that one
-- token ahead decides it; a law says that both read the same.
use Rattle.std.specs.Prelude.{ℕ, ◌||◌, Bool, true, false, Option, Some, None, is_some, List, [], ◌∷◌, ◌++◌, option_map, if◌then◌else◌}
use Rattle.pr_forms.specs.Form.{Form, token, nothing, pair, either, fold, rule, Reads}
use Rattle.pr_ast.specs.declared.lex.token.Sign.{Sign}
use Rattle.pr_ast.specs.declared.lex.token.Sign.TheVariants.{LeftBrace, RightBrace, LeftParen, RightParen, LeftBracket, RightBracket, Comma, Colon}
use Rattle.pr_ast.specs.declared.lex.words.Word.{Word}
use Rattle.pr_ast.specs.declared.lex.words.Word.TheVariants.{Bool as BoolWord, Offset}
use Rattle.pr_labels.specs.declared.matching.Matching.{Matching}
use Rattle.pr_labels.specs.declared.matching.Card.{Card}
use Rattle.pr_labels.specs.declared.matching.Card.TheVariants.{OneToOne}
use Rattle.pr_ast.specs.declared.place.Place.{Place}
use Rattle.pr_ast.specs.Tree.{Tree, select, call, none}
use Rattle.pr_parse.specs.declared.grammar.kind.TokenClass.{TokenClass}
use Rattle.pr_parse.specs.declared.grammar.kind.Level.{Level}
use Rattle.pr_parse.specs.declared.grammar.kind.Level.TheVariants as level
use Rattle.pr_parse.specs.Seen.{Seen, lexed, place_of}
use Rattle.pr_parse.specs.Grammar.{QueryValue, part, word, operand, matches, sided, names, labels, match_text, matchers, braced, bare, suffixes, function, arguments, closed, mark, sign_at, word_at, operator_at, matching_at, grouping_at, minus_at, side_at, match_at, aggregate_at, function_at, function_of, label_at, is_metric, literal_at, text_at, span_at, shift_at, text_of, through, selector_of, joined, turned, signed_by, opened_by, closed_by, names_closed, match_of_text, matchers_closed, matchers_opened, applied, shifted, bracketed, range_closed, step_closed, with_step, argument, arguments_closed, grouping_made, grouped_before, grouped_after, aggregation_made, parameter}

-- The rules. A flag of the levels says whether a parenthesis may come first; that of braces and
-- matchers whether a metric's name stands before.
pub data PlainRule : Type 0 where
  Expr : Bool → PlainRule
  And : Bool → PlainRule
  Cmp : Bool → PlainRule
  Sum : Bool → PlainRule
  Prod : Bool → PlainRule
  Unary : Bool → PlainRule
  Mods : PlainRule
  BareMods : PlainRule
  Labels : PlainRule
  Postfix : Bool → PlainRule
  Selector : PlainRule
  Primary : Bool → PlainRule
  Group : PlainRule
  Braces : Bool → PlainRule
  M : Bool → PlainRule

-- What stands for a part of a text: a value of the split grammar, or what that has no value for.
pub data Meaning : Type 0 where
  given : QueryValue → Meaning
  -- that an optional part is not there
  absent : Meaning
  -- which side has many elements, with the names that are included; the names that are matched,
  -- with that
  side : Card → List (List ℕ) → Meaning
  listed : List (List ℕ) → Card → List (List ℕ) → Meaning
  -- how names are matched; that, and whether `bool` stands before
  keyed : Matching → Meaning
  mods : Bool → Option Matching → Meaning

abbrev pub PF : Type 0
PF = Form Seen PlainRule Meaning

-- tokens, and the joining of values, as in the split grammar
abbrev pub tok : (Seen → Option QueryValue) → PF
tok p = token (λ s. option_map given (p s))

abbrev pub sg : Sign → PF
sg s = tok (sign_at s)

abbrev pub wd : Word → PF
wd w = tok (word_at w)

abbrev pub lift : (QueryValue → QueryValue → QueryValue) → Meaning → Meaning → Meaning
lift c (given v) (given w) = given (c v w)
lift c _ _ = given mark

abbrev pub optional : PF → PF
optional f = either f (nothing absent)

-- the second of two parts
abbrev pub second : Meaning → Meaning → Meaning
second v w = w

-- the first of two
abbrev pub first : Meaning → Meaning → Meaning
first v w = v

-- how vectors are matched
abbrev pub side_named : Meaning → Meaning → Meaning
side_named (given (sided card)) (given (labels ns p)) = side card ns
side_named _ _ = given mark

abbrev pub names_listed : Meaning → Meaning → Meaning
names_listed (given (labels ns p)) absent = listed ns OneToOne []
names_listed (given (labels ns p)) (side card included) = listed ns card included
names_listed (given (labels ns p)) (given (sided card)) = listed ns card []
names_listed _ _ = given mark

abbrev pub matched_by : Meaning → Meaning → Meaning
matched_by (given (matches on)) (listed ns card included) = keyed (record { on = on; names = ns; card = card; include = included })
matched_by _ _ = given mark

abbrev pub modified_by : Meaning → Meaning → Meaning
modified_by absent absent = mods false None
modified_by absent (keyed m) = mods false (Some m)
modified_by (given v) absent = mods true None
modified_by (given v) (keyed m) = mods true (Some m)
modified_by _ _ = given mark

abbrev pub right_operand : Meaning → Meaning → Meaning
right_operand (mods b m) (given (part p t)) = given (operand b m p t)
right_operand _ _ = given mark

-- lists of labels, of matchers
abbrev pub one_more_name : Meaning → Meaning → Meaning
one_more_name (given (names ns)) (given (word p n)) = given (names (ns ++ n ∷ []))
one_more_name _ _ = given mark

abbrev pub matcher_made : QueryValue → QueryValue → QueryValue
matcher_made (word p n) (match_text s t) = matchers (record { label = n; op = s; text = t } ∷ [])
matcher_made _ _ = mark

abbrev pub one_more_matcher : Meaning → Meaning → Meaning
one_more_matcher (given (matchers ms)) (given (matchers ns)) = given (matchers (ms ++ ns))
one_more_matcher _ _ = given mark

-- selectors and calls
abbrev pub is_name : TokenClass → Bool
is_name k = is_metric k || is_some (function_of k)

abbrev pub name_at : Seen → Option QueryValue
name_at (lexed k t) = if is_name k then Some (word (place_of t) (text_of t.kind)) else None

abbrev pub selector_named : Meaning → Meaning → Meaning
selector_named (given (word p n)) absent = given (part p (select p (selector_of (Some n) [])))
selector_named (given (word p n)) (given (braced ms q)) = given (part (through p q) (select (through p q) (selector_of (Some n) ms)))
selector_named _ _ = given mark

abbrev pub selector_alone : Meaning → Meaning → Meaning
selector_alone v (given (braced ms q)) = given (part q (select q (selector_of None ms)))
selector_alone _ _ = given mark

abbrev pub call_made : QueryValue → QueryValue → QueryValue
call_made (function f p n) (closed ts q) = part (through p q) (call (through p q) f ts)
call_made _ _ = mark

-- what follows a primary
abbrev pub one_after_another : Meaning → Meaning → Meaning
one_after_another (given (suffixes ss)) (given (suffixes us)) = given (suffixes (ss ++ us))
one_after_another _ _ = given mark

-- the levels of operators, from the loosest
abbrev pub rule_of : Level → Bool → PlainRule
rule_of level.Or p = Expr p
rule_of level.And p = And p
rule_of level.Comparison p = Cmp p
rule_of level.Sum p = Sum p
rule_of level.Product p = Prod p

abbrev pub below : Level → Bool → PlainRule
below level.Or p = And p
below level.And p = Cmp p
below level.Comparison p = Sum p
below level.Sum p = Prod p
below level.Product p = Unary p

-- an operator of a level with its right side, which begins with no parenthesis after modifiers that
-- end in a bare word
abbrev pub side_after : Level → PlainRule → Bool → PF
side_after l m p = pair (lift turned) (tok (operator_at l)) (pair right_operand (rule m) (rule (below l p)))

abbrev pub right_sides : Level → PF
right_sides l = either (side_after l Mods true) (side_after l BareMods false)

abbrev pub operations : Level → Bool → PF
operations l p = fold (lift joined) (rule (below l p)) (right_sides l)

-- parts of productions
abbrev pub names_part : PF
names_part = either (pair first (fold one_more_name (pair one_more_name (nothing (given (names []))) (tok (label_at false))) (pair second (sg Comma) (tok (label_at false)))) (optional (sg Comma))) (nothing (given (names [])))

abbrev pub matchers_part : Bool → PF
matchers_part named = either (pair first (fold one_more_matcher (rule (M named)) (pair second (sg Comma) (rule (M named)))) (optional (sg Comma))) (nothing (given (matchers [])))

abbrev pub no_suffixes : PF
no_suffixes = nothing (given (suffixes []))

-- "[" duration "]", "offset" duration, and "[" duration ":" [duration] "]"
abbrev pub range_part : PF
range_part = pair second (sg LeftBracket) (pair (lift bracketed) (tok span_at) (pair (lift range_closed) (sg RightBracket) no_suffixes))

abbrev pub offset_part : PF
offset_part = pair second (wd Offset) (pair (lift shifted) (tok shift_at) no_suffixes)

abbrev pub closing_part : PF
closing_part = pair (lift step_closed) (sg RightBracket) no_suffixes

abbrev pub brackets_part : PF
brackets_part = pair second (sg LeftBracket) (pair (lift bracketed) (tok span_at) (pair second (sg Colon) (either (pair (lift with_step) (tok span_at) closing_part) closing_part)))

abbrev pub or_none : PF → PF
or_none f = either f no_suffixes

-- a subquery's brackets with their offset
abbrev pub subquery_part : PF
subquery_part = pair one_after_another brackets_part (or_none offset_part)

abbrev pub after_selector : PF
after_selector = fold (lift applied) (pair (lift applied) (pair (lift applied) (rule Selector) (or_none range_part)) (or_none offset_part)) subquery_part

abbrev pub after_primary : Bool → PF
after_primary p = fold (lift applied) (rule (Primary p)) subquery_part

abbrev pub arguments_part : PF
arguments_part = either (fold (lift argument) (pair (lift argument) (nothing (given (arguments none))) (rule (Expr true))) (pair second (sg Comma) (rule (Expr true)))) (nothing (given (arguments none)))

abbrev pub parameters_part : PF
parameters_part =
    pair second (sg LeftParen) (pair (lift arguments_closed) (pair (lift parameter) (rule (Expr true)) (either (pair second (sg Comma) (rule (Expr true))) (nothing (given bare)))) (sg RightParen))

abbrev pub call_part : PF
call_part = pair (lift call_made) (tok function_at) (pair second (sg LeftParen) (pair (lift arguments_closed) arguments_part (sg RightParen)))

abbrev pub aggregate_part : PF
aggregate_part =
    pair (lift aggregation_made) (tok aggregate_at) (either (pair (lift grouped_before) (rule Group) parameters_part) (pair (lift grouped_after) parameters_part (either (rule Group) (nothing (given bare)))))

abbrev pub parenthesized : PF
parenthesized = pair (lift opened_by) (sg LeftParen) (pair (lift closed_by) (rule (Expr true)) (sg RightParen))

-- The grammar:
--   expr     = and { "or" mods and }
--   and      = cmp { ("and" | "unless") mods cmp }
--   cmp      = sum { ("==" | "!=" | "<=" | "<" | ">=" | ">") mods sum }
--   sum      = prod { ("+" | "-") mods prod }
--   prod     = unary { ("*" | "/" | "%") mods unary }
--   unary    = ("+" | "-") unary | postfix
--   mods     = ["bool"] [("on" | "ignoring") labels [("group_left" | "group_right") labels]]
--   labels   = "(" [ label { "," label } [","] ] ")"
--   postfix  = selector ["[" duration "]"] ["offset" duration] { subquery }
--            | primary { subquery }
--   subquery = "[" duration ":" [duration] "]" ["offset" duration]
--   selector = name [braces] | braces
--   primary  = number | string | "(" expr ")"
--            | function "(" [ expr { "," expr } ] ")"
--            | aggregation [group] "(" expr ["," expr] ")"
--            | aggregation "(" expr ["," expr] ")" group
--   group    = ("by" | "without") labels
--   braces   = "{" [ m { "," m } [","] ] "}"
--   m        = label ("=" | "!=" | "=~" | "!~") string
-- So a range stands directly after a selector, and an offset once, after a selector, its range, or
-- a subquery. `mods` may end in a bare `group_left` or `group_right` too (BareMods); then what
-- follows begins with no parenthesis, since that would begin labels.
abbrev pub plain : PlainRule → PF
plain (Expr p) = operations level.Or p
plain (And p) = operations level.And p
plain (Cmp p) = operations level.Comparison p
plain (Sum p) = operations level.Sum p
plain (Prod p) = operations level.Product p
plain (Unary p) = either (pair (lift signed_by) (tok minus_at) (rule (Unary true))) (rule (Postfix p))
plain Mods = pair modified_by (optional (wd BoolWord)) (optional (pair matched_by (tok matching_at) (pair names_listed (rule Labels) (optional (pair side_named (tok side_at) (rule Labels))))))
plain BareMods = pair modified_by (optional (wd BoolWord)) (pair matched_by (tok matching_at) (pair names_listed (rule Labels) (tok side_at)))
plain Labels = pair second (sg LeftParen) (pair (lift names_closed) names_part (sg RightParen))
plain (Postfix p) = either after_selector (after_primary p)
plain Selector = either (pair selector_named (tok name_at) (optional (rule (Braces true)))) (pair selector_alone (nothing absent) (rule (Braces false)))
plain (Primary true) = either parenthesized (rule (Primary false))
plain (Primary false) = either (tok literal_at) (either call_part aggregate_part)
plain Group = pair (lift grouping_made) (tok grouping_at) (rule Labels)
plain (Braces named) = pair (lift matchers_opened) (sg LeftBrace) (pair (lift matchers_closed) (matchers_part named) (sg RightBrace))
plain (M named) = pair (lift matcher_made) (tok (label_at named)) (pair (lift match_of_text) (tok match_at) (tok text_at))

-- The tokens are a whole expression, with this tree and the place of its text.
abbrev pub PlainlyReads : List Seen → Place → Tree → Type 0
PlainlyReads ts p t = Reads plain (rule (Expr true)) ts (given (part p t)) []
