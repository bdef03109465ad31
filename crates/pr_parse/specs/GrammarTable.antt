-- What one token ahead tells of the rules, and that they end: no part of what a text means.
use Rattle.std.specs.Prelude.{ℕ, ◌||◌, ◌&&◌, Bool, true, false, is_some}
use Rattle.pr_forms.specs.Table.{Table}
use Rattle.pr_forms.specs.Language.{Language}
use Rattle.pr_ast.specs.declared.lex.token.Sign.TheVariants.{LeftBrace, LeftParen, LeftBracket, RightBracket, Comma, Colon}
use Rattle.pr_ast.specs.declared.lex.words.Word.TheVariants.{Bool as BoolWord, Offset, Inf, NaN}
use Rattle.pr_parse.specs.declared.grammar.kind.TokenClass.{TokenClass}
use Rattle.pr_parse.specs.declared.grammar.kind.TokenClass.TheVariants.{Number, Text, Word, Function, Sign}
use Rattle.pr_parse.specs.declared.grammar.kind.Level.{Level}
use Rattle.pr_parse.specs.declared.grammar.kind.Level.TheVariants.{Or, And, Comparison, Sum, Product}
use Rattle.pr_parse.specs.declared.grammar.kind.Before.{Before}
use Rattle.pr_parse.specs.declared.grammar.kind.Before.TheVariants.{Selector as Selectors, Range as Ranges, Other as Others}
use Rattle.pr_parse.specs.declared.grammar.kind.Lexed.{Lexed}
use Rattle.pr_parse.specs.Seen.{Seen, lexed, see}
use Rattle.pr_parse.specs.Grammar.{QueryValue, Rule, Binary, Modified, Matched, Grouped, Included, Unary, Postfix, Operand, Labels, MoreLabels, Matchers, MoreMatchers, Braced, Selection, Tail, Arguments, Aggregation, Parameters, After, InSelector, SelectorSpan, InOther, Step, Closing, Shift, is_sign, is_word, operator_of, matching_of, grouping_of, minus_of, side_of, aggregate_of, is_label, is_metric, is_span, is_shift, production}

abbrev pub starts_operand : TokenClass → Bool
starts_operand Number = true
starts_operand Text = true
starts_operand (Word Inf) = true
starts_operand (Word NaN) = true
starts_operand (Sign LeftBrace) = true
starts_operand (Function f) = true
starts_operand k = is_metric k || is_some (aggregate_of k)

abbrev pub starts_unary : Bool → TokenClass → Bool
starts_unary p k = starts_operand k || is_some (minus_of k) || (p && is_sign LeftParen k)

abbrev pub starts_selection : TokenClass → Bool
starts_selection k = is_sign LeftBrace k || is_sign LeftBracket k || is_word Offset k

abbrev pub starts_after : Before → TokenClass → Bool
starts_after Selectors k = is_sign LeftBracket k || is_word Offset k
starts_after Ranges k = is_sign LeftBracket k || is_word Offset k
starts_after Others k = is_sign LeftBracket k

abbrev pub starts_kind : Rule → TokenClass → Bool
starts_kind (Binary l p) k = starts_unary p k
starts_kind (Modified l) k = is_word BoolWord k || is_some (matching_of k) || starts_unary true k
starts_kind (Matched l) k = is_some (matching_of k) || starts_unary true k
starts_kind (Grouped l) k = is_some (side_of k) || starts_unary true k
starts_kind (Included l) k = starts_unary true k
starts_kind (Unary p) k = starts_unary p k
starts_kind (Postfix p) k = starts_operand k || (p && is_sign LeftParen k)
starts_kind Operand k = starts_operand k
starts_kind Labels k = is_label false k
starts_kind MoreLabels k = is_sign Comma k
starts_kind (Matchers named) k = is_label named k
starts_kind (MoreMatchers named) k = is_sign Comma k
starts_kind Braced k = is_sign LeftBrace k
starts_kind Selection k = starts_selection k
starts_kind Tail k = is_sign LeftParen k || starts_selection k
starts_kind Arguments k = starts_unary true k
starts_kind Aggregation k = is_some (grouping_of k) || is_sign LeftParen k
starts_kind Parameters k = starts_unary true k
starts_kind (After b) k = starts_after b k
starts_kind InSelector k = is_span k
starts_kind SelectorSpan k = is_sign RightBracket k || is_sign Colon k
starts_kind InOther k = is_span k
starts_kind Step k = is_span k || is_sign RightBracket k
starts_kind Closing k = is_sign RightBracket k
starts_kind Shift k = is_shift k

abbrev pub starts_rule : Rule → Seen → Bool
starts_rule n (lexed k t) = starts_kind n k

abbrev pub empty_rule : Rule → Bool
empty_rule Labels = true
empty_rule MoreLabels = true
empty_rule (Matchers named) = true
empty_rule (MoreMatchers named) = true
empty_rule Braced = true
empty_rule Selection = true
empty_rule Tail = true
empty_rule Arguments = true
empty_rule (After b) = true
empty_rule _ = false

-- an operand goes on with what may follow it, or with the grouping of an aggregation
abbrev pub more_suffixes : TokenClass → Bool
more_suffixes k = is_sign LeftBracket k || is_word Offset k

abbrev pub more_selection : TokenClass → Bool
more_selection k = is_sign LeftBrace k || more_suffixes k

abbrev pub more_operand : TokenClass → Bool
more_operand k = more_selection k || is_sign LeftParen k || is_some (grouping_of k)

-- with the operators of a level and of the tighter ones
abbrev pub more_products : TokenClass → Bool
more_products k = is_some (operator_of Product k) || more_operand k

abbrev pub more_sums : TokenClass → Bool
more_sums k = is_some (operator_of Sum k) || more_products k

abbrev pub more_comparisons : TokenClass → Bool
more_comparisons k = is_some (operator_of Comparison k) || more_sums k

abbrev pub more_ands : TokenClass → Bool
more_ands k = is_some (operator_of And k) || more_comparisons k

abbrev pub more_ors : TokenClass → Bool
more_ors k = is_some (operator_of Or k) || more_ands k

abbrev pub more_level : Level → TokenClass → Bool
more_level Or k = more_ors k
more_level And k = more_ands k
more_level Comparison k = more_comparisons k
more_level Sum k = more_sums k
more_level Product k = more_products k

abbrev pub more_right : Level → TokenClass → Bool
more_right Or k = more_ands k
more_right And k = more_comparisons k
more_right Comparison k = more_sums k
more_right Sum k = more_products k
more_right Product k = more_operand k

abbrev pub more_kind : Rule → TokenClass → Bool
more_kind (Binary l p) k = more_level l k
more_kind (Modified l) k = more_right l k
more_kind (Matched l) k = more_right l k
more_kind (Grouped l) k = more_right l k
more_kind (Included l) k = more_right l k
more_kind (Unary p) k = more_operand k
more_kind (Postfix p) k = more_operand k
more_kind Operand k = more_operand k
more_kind Labels k = is_label false k || is_sign Comma k
more_kind MoreLabels k = is_label false k || is_sign Comma k
more_kind (Matchers named) k = is_label named k || is_sign Comma k
more_kind (MoreMatchers named) k = is_label named k || is_sign Comma k
more_kind Braced k = is_sign LeftBrace k
more_kind Selection k = more_selection k
more_kind Tail k = is_sign LeftParen k || more_selection k
more_kind Arguments k = starts_unary true k || more_ors k || is_sign Comma k
more_kind Aggregation k = is_some (grouping_of k)
more_kind Parameters k = more_ors k || is_sign Comma k
more_kind (After b) k = more_suffixes k
more_kind InSelector k = more_suffixes k
more_kind SelectorSpan k = more_suffixes k
more_kind InOther k = more_suffixes k
more_kind Step k = more_suffixes k
more_kind Closing k = more_suffixes k
more_kind Shift k = more_suffixes k

abbrev pub more_rule : Rule → Seen → Bool
more_rule n (lexed k t) = more_kind n k

abbrev pub table : Table Seen Rule
table = record { empty = empty_rule; starts = starts_rule; more = more_rule }

-- the language of queries
abbrev pub queries : Language Lexed Seen Rule QueryValue
queries = record { production = production; table = table; see = see }

-- how many steps a rule makes at most before it comes to a token, and a bound on that
abbrev pub rank : Rule → ℕ
rank (Binary Or p) = 21
rank (Binary And p) = 19
rank (Binary Comparison p) = 17
rank (Binary Sum p) = 15
rank (Binary Product p) = 13
rank (Modified l) = 26
rank (Matched l) = 24
rank (Grouped l) = 24
rank (Included l) = 24
rank (Unary p) = 11
rank (Postfix p) = 9
rank Operand = 7
rank Labels = 3
rank MoreLabels = 3
rank (Matchers named) = 3
rank (MoreMatchers named) = 3
rank Braced = 3
rank Selection = 6
rank Tail = 8
rank Arguments = 25
rank Aggregation = 4
rank Parameters = 23
rank (After Selectors) = 4
rank (After Ranges) = 5
rank (After Others) = 3
rank InSelector = 2
rank SelectorSpan = 3
rank InOther = 2
rank Step = 4
rank Closing = 2
rank Shift = 2

abbrev pub steps : ℕ
steps = 40
