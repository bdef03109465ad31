-- Each rule of both grammars reads something, and each token that they take is there.
use Rattle.std.proofs.Common.{◌≡◌, Option, Some, Bool, true, false, List, [], ◌∷◌, ◌++◌, refl, ap}
use Rattle.std.specs.Prelude.{option_map}
use Rattle.pr_forms.specs.Form.{Form, rule, Reads, is_token, is_nothing, is_pair, is_left, is_right, is_stop, is_fold, is_rule}
use Rattle.pr_ast.specs.declared.lex.token.TokenKind.TheVariants.{Sign as SignToken}
use Rattle.pr_ast.specs.declared.lex.token.Sign.TheVariants.{LeftBrace, RightBrace, LeftParen, RightParen, LeftBracket, RightBracket, Comma, Colon, Assign, Equal, Minus, Star}
use Rattle.pr_ast.specs.declared.lex.words.Word.TheVariants.{Bool as BoolWord, Offset, On, By, GroupLeft, Sum as SumWord, Or as OrWord, And as AndWord}
use Rattle.pr_num.specs.declared.value.Num.TheVariants.{NaN as NaNValue}
use Rattle.pr_ast.specs.Tree.{number as number_tree, none}
use Rattle.pr_ast.specs.declared.names.Func.TheVariants.{Abs}
use Rattle.pr_parse.specs.declared.grammar.kind.TokenClass.{TokenClass}
use Rattle.pr_parse.specs.declared.grammar.kind.TokenClass.TheVariants.{Number, Text, Span, Word, Function, Plain, Sign}
use Rattle.pr_parse.specs.declared.grammar.kind.Level.{Level}
use Rattle.pr_parse.specs.declared.grammar.kind.Level.TheVariants as level
use Rattle.pr_parse.specs.declared.grammar.kind.Before.TheVariants.{Selector as Selectors, Range as Ranges, Other as Others}
use Rattle.pr_parse.specs.Seen.{Seen, lexed}
use Rattle.pr_parse.specs.Grammar as g
use Rattle.pr_parse.specs.Grammar.{QueryValue, Rule, F, production, tighter, sign_at, word_at, operator_at, matching_at, grouping_at, minus_at, side_at, match_at, aggregate_at, function_at, label_at, metric_at, literal_at, text_at, span_at, shift_at, label_list, matcher_list, group, parameters}
use Rattle.laws_language.specs.private.Plain.{PlainRule, Expr, And, Cmp, Sum, Prod, Unary, Mods, BareMods, Labels, Postfix, Selector, Primary, Group, Braces, M, Meaning, given, name_at, below, plain, operations, names_part, matchers_part, range_part, offset_part, closing_part, subquery_part, arguments_part, parameters_part}
use Rattle.laws_language.proofs.Completing.{HasToken, Alive, Whole}

-- a token of a kind
abbrev a_token : TokenClass → Seen
a_token k = lexed k (record { start = 0; end = 0; kind = SignToken Comma })

has : (p : Seen → Option QueryValue) (k : TokenClass) (v : QueryValue) → p (a_token k) ≡ Some v → HasToken p
has p k v e = record { token = a_token k; value = v; is = e }

left_paren : HasToken (sign_at LeftParen)
left_paren = has (sign_at LeftParen) (Sign LeftParen) _ refl

right_paren : HasToken (sign_at RightParen)
right_paren = has (sign_at RightParen) (Sign RightParen) _ refl

left_brace : HasToken (sign_at LeftBrace)
left_brace = has (sign_at LeftBrace) (Sign LeftBrace) _ refl

right_brace : HasToken (sign_at RightBrace)
right_brace = has (sign_at RightBrace) (Sign RightBrace) _ refl

left_bracket : HasToken (sign_at LeftBracket)
left_bracket = has (sign_at LeftBracket) (Sign LeftBracket) _ refl

right_bracket : HasToken (sign_at RightBracket)
right_bracket = has (sign_at RightBracket) (Sign RightBracket) _ refl

comma : HasToken (sign_at Comma)
comma = has (sign_at Comma) (Sign Comma) _ refl

colon : HasToken (sign_at Colon)
colon = has (sign_at Colon) (Sign Colon) _ refl

bool_word : HasToken (word_at BoolWord)
bool_word = has (word_at BoolWord) (Word BoolWord) _ refl

offset_word : HasToken (word_at Offset)
offset_word = has (word_at Offset) (Word Offset) _ refl

an_operator : (l : Level) → HasToken (operator_at l)
an_operator level.Or = has (operator_at level.Or) (Word OrWord) _ refl
an_operator level.And = has (operator_at level.And) (Word AndWord) _ refl
an_operator level.Comparison = has (operator_at level.Comparison) (Sign Equal) _ refl
an_operator level.Sum = has (operator_at level.Sum) (Sign Minus) _ refl
an_operator level.Product = has (operator_at level.Product) (Sign Star) _ refl

a_matching : HasToken matching_at
a_matching = has matching_at (Word On) _ refl

a_grouping : HasToken grouping_at
a_grouping = has grouping_at (Word By) _ refl

a_minus : HasToken minus_at
a_minus = has minus_at (Sign Minus) _ refl

a_side : HasToken side_at
a_side = has side_at (Word GroupLeft) _ refl

a_match : HasToken match_at
a_match = has match_at (Sign Assign) _ refl

an_aggregation : HasToken aggregate_at
an_aggregation = has aggregate_at (Word SumWord) _ refl

a_function : HasToken function_at
a_function = has function_at (Function Abs) _ refl

a_label : (named : Bool) → HasToken (label_at named)
a_label true = has (label_at true) Plain _ refl
a_label false = has (label_at false) Plain _ refl

a_metric : HasToken metric_at
a_metric = has metric_at Plain _ refl

a_name : HasToken name_at
a_name = has name_at Plain _ refl

a_literal : HasToken literal_at
a_literal = has literal_at Number _ refl

a_text : HasToken text_at
a_text = has text_at Text _ refl

a_span : HasToken span_at
a_span = has span_at Span _ refl

a_shift : HasToken shift_at
a_shift = has shift_at Span _ refl

-- the split grammar
label_list_alive : Alive label_list
label_list_alive = (left_paren, (tt, right_paren))

matcher_list_alive : (named : Bool) → Alive (matcher_list named)
matcher_list_alive named = (left_brace, (tt, right_brace))

group_alive : Alive group
group_alive = (a_grouping, label_list_alive)

parameters_alive : Alive parameters
parameters_alive = (left_paren, (tt, right_paren))

pub split_alive : (n : Rule) → Alive (production n)
split_alive (g.Binary l p) = (tt, (an_operator l, tt))
split_alive (g.Modified l) = ((bool_word, tt), tt)
split_alive (g.Matched l) = ((a_matching, (label_list_alive, tt)), (tt, tt))
split_alive (g.Grouped l) = ((a_side, tt), (tt, tt))
split_alive (g.Included l) = ((label_list_alive, tt), (tt, tt))
split_alive (g.Unary p) = ((a_minus, tt), tt)
split_alive (g.Postfix true) = (((left_paren, (tt, right_paren)), tt), tt)
split_alive (g.Postfix false) = tt
split_alive g.Operand = ((a_literal, tt), ((a_metric, tt), ((a_function, tt), (((an_aggregation, tt), tt), (matcher_list_alive false, tt)))))
split_alive g.Labels = ((a_label false, tt), tt)
split_alive g.MoreLabels = ((comma, tt), tt)
split_alive (g.Matchers named) = ((a_label named, ((a_match, a_text), tt)), tt)
split_alive (g.MoreMatchers named) = ((comma, tt), tt)
split_alive g.Braced = (matcher_list_alive true, tt)
split_alive g.Selection = (tt, tt)
split_alive g.Tail = ((left_paren, ((tt, right_paren), tt)), tt)
split_alive g.Arguments = (((tt, tt), (comma, tt)), tt)
split_alive g.Aggregation = ((group_alive, parameters_alive), (parameters_alive, (group_alive, tt)))
split_alive g.Parameters = (tt, ((comma, tt), tt))
split_alive (g.After Selectors) = ((left_bracket, tt), ((offset_word, tt), tt))
split_alive (g.After Ranges) = ((offset_word, tt), tt)
split_alive (g.After Others) = ((left_bracket, tt), tt)
split_alive g.InSelector = (a_span, tt)
split_alive g.SelectorSpan = ((right_bracket, tt), (colon, tt))
split_alive g.InOther = (a_span, (colon, tt))
split_alive g.Step = ((a_span, tt), tt)
split_alive g.Closing = (right_bracket, tt)
split_alive g.Shift = (a_shift, tt)

whole_by : {N V : Type 0} (G : N → Form Seen N V) (f : Form Seen N V) (v : V) (front : List Seen) → ((r : List Seen) → Reads G f (front ++ r) v r) → Whole G f
whole_by G f v front h = record { value = v; front = front; reads = h }

abbrev number : List Seen
number = a_token Number ∷ []

-- a number, as the value of all levels
abbrev a_part : QueryValue
a_part = g.part (record { start = 0; end = 0 }) (number_tree (record { start = 0; end = 0 }) NaNValue)

operand_reads : (r : List Seen) → Reads production (rule g.Operand) (number ++ r) a_part r
operand_reads r = is_rule (is_left (is_pair (is_token refl) (is_rule (is_right is_nothing))))

postfix_reads : (p : Bool) (r : List Seen) → Reads production (rule (g.Postfix p)) (number ++ r) a_part r
postfix_reads true r = is_rule (is_right (operand_reads r))
postfix_reads false r = is_rule (operand_reads r)

unary_reads : (p : Bool) (r : List Seen) → Reads production (rule (g.Unary p)) (number ++ r) a_part r
unary_reads p r = is_rule (is_right (postfix_reads p r))

level_reads : (l : Level) (p : Bool) (r : List Seen) → Reads production (rule (tighter l p)) (number ++ r) a_part r
level_reads level.Product p r = unary_reads p r
level_reads level.Sum p r = is_rule (is_fold (unary_reads p r) is_stop)
level_reads level.Comparison p r = is_rule (is_fold (is_rule (is_fold (unary_reads p r) is_stop)) is_stop)
level_reads level.And p r = is_rule (is_fold (is_rule (is_fold (is_rule (is_fold (unary_reads p r) is_stop)) is_stop)) is_stop)
level_reads level.Or p r = is_rule (is_fold (is_rule (is_fold (is_rule (is_fold (is_rule (is_fold (unary_reads p r) is_stop)) is_stop)) is_stop)) is_stop)

-- the value is found with the reading
abbrev W : Rule → List Seen → QueryValue → Type 0
W n front v = (r : List Seen) → Reads production (rule n) (front ++ r) v r

S : {n : Rule} {v : QueryValue} (front : List Seen) → W n front v → Whole production (rule n)
S {n} {v} front h = whole_by production (rule n) v front h

no_suffix : (r : List Seen) → Reads production (rule (g.After Selectors)) r (g.suffixes []) r
no_suffix r = is_rule (is_right (is_right is_nothing))

range_suffix : (r : List Seen) → Reads production (rule (g.After Ranges)) r (g.suffixes []) r
range_suffix r = is_rule (is_right (is_rule (is_right is_nothing)))

selection_reads : (r : List Seen) → Reads production (rule g.Selection) r (g.selection g.bare []) r
selection_reads r = is_rule (is_pair (is_rule (is_right is_nothing)) (no_suffix r))

parameters_read : (r : List Seen) → Reads production (rule g.Parameters) (number ++ r) (g.parameter a_part g.bare) r
parameters_read r = is_rule (is_pair (is_rule (is_fold (level_reads level.Or true r) is_stop)) (is_right is_nothing))

pub split_whole : (n : Rule) → Whole production (rule n)
split_whole (g.Binary l p) = S {n = g.Binary l p} {v = a_part} number (λ r. is_rule (is_fold (level_reads l p r) is_stop))
split_whole (g.Modified l) = S {n = g.Modified l} {v = g.unmatched g.mark a_part} number (λ r. is_rule (is_right (is_rule (is_right (is_pair is_nothing (level_reads l true r))))))
split_whole (g.Matched l) = S {n = g.Matched l} {v = g.unmatched g.mark a_part} number (λ r. is_rule (is_right (is_pair is_nothing (level_reads l true r))))
split_whole (g.Grouped l) = S {n = g.Grouped l} {v = g.ungrouped g.mark a_part} number (λ r. is_rule (is_right (is_pair is_nothing (level_reads l true r))))
split_whole (g.Included l) = S {n = g.Included l} {v = g.including_none g.mark a_part} number (λ r. is_rule (is_right (is_pair is_nothing (level_reads l false r))))
split_whole (g.Unary p) = S {n = g.Unary p} {v = a_part} number (unary_reads p)
split_whole (g.Postfix p) = S {n = g.Postfix p} {v = a_part} number (postfix_reads p)
split_whole g.Operand = S {n = g.Operand} {v = a_part} number operand_reads
split_whole g.Labels = S {n = g.Labels} {v = g.names []} [] (λ r. is_rule (is_right is_nothing))
split_whole g.MoreLabels = S {n = g.MoreLabels} {v = g.names []} [] (λ r. is_rule (is_right is_nothing))
split_whole (g.Matchers named) = S {n = g.Matchers named} {v = g.matchers []} [] (λ r. is_rule (is_right is_nothing))
split_whole (g.MoreMatchers named) = S {n = g.MoreMatchers named} {v = g.matchers []} [] (λ r. is_rule (is_right is_nothing))
split_whole g.Braced = S {n = g.Braced} {v = g.bare} [] (λ r. is_rule (is_right is_nothing))
split_whole g.Selection = S {n = g.Selection} {v = g.selection g.bare []} [] selection_reads
split_whole g.Tail = S {n = g.Tail} {v = g.selection g.bare []} [] (λ r. is_rule (is_right (selection_reads r)))
split_whole g.Arguments = S {n = g.Arguments} {v = g.arguments none} [] (λ r. is_rule (is_right is_nothing))
split_whole g.Aggregation =
    S {n = g.Aggregation} {v = g.grouped_after (g.arguments_closed (g.parameter a_part g.bare) (g.at (record { start = 0; end = 0 }))) g.bare} (a_token (Sign LeftParen) ∷ a_token Number ∷ a_token (Sign RightParen) ∷ [])
    (λ r. is_rule (is_right (is_pair (is_pair (is_token refl) (is_pair (parameters_read (a_token (Sign RightParen) ∷ r)) (is_token refl))) (is_right is_nothing))))
split_whole g.Parameters = S {n = g.Parameters} {v = g.parameter a_part g.bare} number parameters_read
split_whole (g.After Selectors) = S {n = g.After Selectors} {v = g.suffixes []} [] no_suffix
split_whole (g.After Ranges) = S {n = g.After Ranges} {v = g.suffixes []} [] range_suffix
split_whole (g.After Others) = S {n = g.After Others} {v = g.suffixes []} [] (λ r. is_rule (is_right is_nothing))
split_whole g.InSelector = S {n = g.InSelector} (a_token Span ∷ a_token (Sign RightBracket) ∷ []) (λ r. is_rule (is_pair (is_token refl) (is_rule (is_left (is_pair (is_token refl) (range_suffix r))))))
split_whole g.SelectorSpan = S {n = g.SelectorSpan} (a_token (Sign RightBracket) ∷ []) (λ r. is_rule (is_left (is_pair (is_token refl) (range_suffix r))))
split_whole g.InOther = S {n = g.InOther} (a_token Span ∷ a_token (Sign Colon) ∷ a_token (Sign RightBracket) ∷ []) (λ r. is_rule (is_pair (is_token refl) (is_pair (is_token refl) (is_rule (is_right (is_rule (is_pair (is_token refl) (range_suffix r))))))))
split_whole g.Step = S {n = g.Step} (a_token (Sign RightBracket) ∷ []) (λ r. is_rule (is_right (is_rule (is_pair (is_token refl) (range_suffix r)))))
split_whole g.Closing = S {n = g.Closing} (a_token (Sign RightBracket) ∷ []) (λ r. is_rule (is_pair (is_token refl) (range_suffix r)))
split_whole g.Shift = S {n = g.Shift} (a_token Span ∷ []) (λ r. is_rule (is_pair (is_token refl) (is_rule (is_right is_nothing))))

-- the plain grammar
tok_alive : {p : Seen → Option QueryValue} → HasToken p → HasToken {V = Meaning} (λ s. option_map given (p s))
tok_alive h = record { token = h.token; value = given h.value; is = ap (option_map given) h.is }

operations_alive : (l : Level) (p : Bool) → Alive (operations l p)
operations_alive l p = (tt, ((tok_alive (an_operator l), (tt, tt)), (tok_alive (an_operator l), (tt, tt))))

names_alive : Alive names_part
names_alive = ((((tt, tok_alive (a_label false)), (tok_alive comma, tok_alive (a_label false))), (tok_alive comma, tt)), tt)

matchers_alive : (named : Bool) → Alive (matchers_part named)
matchers_alive named = (((tt, (tok_alive comma, tt)), (tok_alive comma, tt)), tt)

closing_alive : Alive closing_part
closing_alive = (tok_alive right_bracket, tt)

offset_alive : Alive offset_part
offset_alive = (tok_alive offset_word, (tok_alive a_shift, tt))

range_alive : Alive range_part
range_alive = (tok_alive left_bracket, (tok_alive a_span, (tok_alive right_bracket, tt)))

subquery_alive : Alive subquery_part
subquery_alive = ((tok_alive left_bracket, (tok_alive a_span, (tok_alive colon, ((tok_alive a_span, closing_alive), closing_alive)))), (offset_alive, tt))

arguments_alive : Alive arguments_part
arguments_alive = (((tt, tt), (tok_alive comma, tt)), tt)

parameters_part_alive : Alive parameters_part
parameters_part_alive = (tok_alive left_paren, ((tt, ((tok_alive comma, tt), tt)), tok_alive right_paren))

pub plain_alive : (n : PlainRule) → Alive (plain n)
plain_alive (Expr p) = operations_alive level.Or p
plain_alive (And p) = operations_alive level.And p
plain_alive (Cmp p) = operations_alive level.Comparison p
plain_alive (Sum p) = operations_alive level.Sum p
plain_alive (Prod p) = operations_alive level.Product p
plain_alive (Unary p) = ((tok_alive a_minus, tt), tt)
plain_alive Mods = ((tok_alive bool_word, tt), ((tok_alive a_matching, (tt, ((tok_alive a_side, tt), tt))), tt))
plain_alive BareMods = ((tok_alive bool_word, tt), (tok_alive a_matching, (tt, tok_alive a_side)))
plain_alive Labels = (tok_alive left_paren, (names_alive, tok_alive right_paren))
plain_alive (Postfix p) = ((((tt, (range_alive, tt)), (offset_alive, tt)), subquery_alive), (tt, subquery_alive))
plain_alive Selector = ((tok_alive a_name, (tt, tt)), (tt, tt))
plain_alive (Primary true) = ((tok_alive left_paren, (tt, tok_alive right_paren)), tt)
plain_alive (Primary false) =
    (tok_alive a_literal, ((tok_alive a_function, (tok_alive left_paren, (arguments_alive, tok_alive right_paren))), (tok_alive an_aggregation, ((tt, parameters_part_alive), (parameters_part_alive, (tt, tt))))))
plain_alive Group = (tok_alive a_grouping, tt)
plain_alive (Braces named) = (tok_alive left_brace, (matchers_alive named, tok_alive right_brace))
plain_alive (M named) = (tok_alive (a_label named), (tok_alive a_match, tok_alive a_text))

primary_reads : (p : Bool) (r : List Seen) → Reads plain (rule (Primary p)) (number ++ r) (given a_part) r
primary_reads true r = is_rule (is_right (is_rule (is_left (is_token refl))))
primary_reads false r = is_rule (is_left (is_token refl))

plain_unary : (p : Bool) (r : List Seen) → Reads plain (rule (Unary p)) (number ++ r) (given a_part) r
plain_unary p r = is_rule (is_right (is_rule (is_right (is_fold (primary_reads p r) is_stop))))

plain_level : (l : Level) (p : Bool) (r : List Seen) → Reads plain (rule (below l p)) (number ++ r) (given a_part) r
plain_level level.Product p r = plain_unary p r
plain_level level.Sum p r = is_rule (is_fold (plain_unary p r) is_stop)
plain_level level.Comparison p r = is_rule (is_fold (is_rule (is_fold (plain_unary p r) is_stop)) is_stop)
plain_level level.And p r = is_rule (is_fold (is_rule (is_fold (is_rule (is_fold (plain_unary p r) is_stop)) is_stop)) is_stop)
plain_level level.Or p r = is_rule (is_fold (is_rule (is_fold (is_rule (is_fold (is_rule (is_fold (plain_unary p r) is_stop)) is_stop)) is_stop)) is_stop)

P : {n : PlainRule} {v : Meaning} (front : List Seen) → ((r : List Seen) → Reads plain (rule n) (front ++ r) v r) → Whole plain (rule n)
P {n} {v} front h = whole_by plain (rule n) v front h

labels_read : (r : List Seen) → Reads plain (rule Labels) (a_token (Sign LeftParen) ∷ a_token (Sign RightParen) ∷ r) (given (g.labels [] (record { start = 0; end = 0 }))) r
labels_read r = is_rule (is_pair (is_token refl) (is_pair (is_right is_nothing) (is_token refl)))

pub plain_whole : (n : PlainRule) → Whole plain (rule n)
plain_whole (Expr p) = P {n = Expr p} {v = given a_part} number (λ r. is_rule (is_fold (plain_level level.Or p r) is_stop))
plain_whole (And p) = P {n = And p} {v = given a_part} number (plain_level level.Or p)
plain_whole (Cmp p) = P {n = Cmp p} {v = given a_part} number (plain_level level.And p)
plain_whole (Sum p) = P {n = Sum p} {v = given a_part} number (plain_level level.Comparison p)
plain_whole (Prod p) = P {n = Prod p} {v = given a_part} number (plain_level level.Sum p)
plain_whole (Unary p) = P {n = Unary p} {v = given a_part} number (plain_unary p)
plain_whole Mods = P {n = Mods} [] (λ r. is_rule (is_pair (is_right is_nothing) (is_right is_nothing)))
plain_whole BareMods =
    P {n = BareMods} (a_token (Word On) ∷ a_token (Sign LeftParen) ∷ a_token (Sign RightParen) ∷ a_token (Word GroupLeft) ∷ [])
    (λ r. is_rule (is_pair (is_right is_nothing) (is_pair (is_token refl) (is_pair (labels_read (a_token (Word GroupLeft) ∷ r)) (is_token refl)))))
plain_whole Labels = P {n = Labels} (a_token (Sign LeftParen) ∷ a_token (Sign RightParen) ∷ []) labels_read
plain_whole (Postfix p) = P {n = Postfix p} {v = given a_part} number (λ r. is_rule (is_right (is_fold (primary_reads p r) is_stop)))
plain_whole Selector = P {n = Selector} (a_token Plain ∷ []) (λ r. is_rule (is_left (is_pair (is_token refl) (is_right is_nothing))))
plain_whole (Primary p) = P {n = Primary p} {v = given a_part} number (primary_reads p)
plain_whole Group = P {n = Group} (a_token (Word By) ∷ a_token (Sign LeftParen) ∷ a_token (Sign RightParen) ∷ []) (λ r. is_rule (is_pair (is_token refl) (labels_read r)))
plain_whole (Braces named) = P {n = Braces named} (a_token (Sign LeftBrace) ∷ a_token (Sign RightBrace) ∷ []) (λ r. is_rule (is_pair (is_token refl) (is_pair (is_right is_nothing) (is_token refl))))
plain_whole (M true) = P {n = M true} (a_token Plain ∷ a_token (Sign Assign) ∷ a_token Text ∷ []) (λ r. is_rule (is_pair (is_token refl) (is_pair (is_token refl) (is_token refl))))
plain_whole (M false) = P {n = M false} (a_token Plain ∷ a_token (Sign Assign) ∷ a_token Text ∷ []) (λ r. is_rule (is_pair (is_token refl) (is_pair (is_token refl) (is_token refl))))
