-- Each token that the grammar takes leads from a spot to a spot.
use Rattle.std.proofs.Common.{◌≡◌, Bool, true, false, refl}
use Rattle.pr_ast.specs.declared.lex.token.Token.{Token}
use Rattle.pr_ast.specs.declared.lex.token.Sign.TheVariants.{LeftBrace, RightBrace, LeftParen, RightParen, LeftBracket, RightBracket, Comma, Colon}
use Rattle.pr_ast.specs.declared.lex.words.Word.TheVariants.{And as AndWord, Bool as BoolWord, Offset}
use Rattle.pr_parse.specs.declared.grammar.kind.TokenClass.{TokenClass}
use Rattle.pr_parse.specs.declared.grammar.kind.TokenClass.TheVariants.{Word, Sign}
use Rattle.pr_parse.specs.declared.grammar.kind.Level.{Level}
use Rattle.pr_parse.specs.declared.grammar.kind.Level.TheVariants as level
use Rattle.pr_parse.specs.Seen.{lexed}
use Rattle.pr_parse.specs.Grammar.{sign_at, word_at, operator_at, matching_at, grouping_at, minus_at, side_at, match_at, aggregate_at, function_at, label_at, metric_at, literal_at, text_at, span_at, shift_at}
use Rattle.laws_language.proofs.Spots.{open_spot, fresh, marked, listed, braced}
use Rattle.laws_language.proofs.SpotMoves.{is_right, TakesBetween, by_kinds}

comma_at : (k : TokenClass) (t : Token) → is_right open_spot fresh k (sign_at Comma (lexed k t)) ≡ true
comma_at (Sign Comma) t = refl
comma_at (Word AndWord) t = refl
comma_at _ t = refl

pub comma : TakesBetween open_spot (sign_at Comma) fresh
comma = by_kinds (sign_at Comma) open_spot fresh comma_at

right_paren_at : (k : TokenClass) (t : Token) → is_right open_spot fresh k (sign_at RightParen (lexed k t)) ≡ true
right_paren_at (Sign Comma) t = refl
right_paren_at (Word AndWord) t = refl
right_paren_at _ t = refl

pub right_paren : TakesBetween open_spot (sign_at RightParen) fresh
right_paren = by_kinds (sign_at RightParen) open_spot fresh right_paren_at

left_bracket_at : (k : TokenClass) (t : Token) → is_right open_spot fresh k (sign_at LeftBracket (lexed k t)) ≡ true
left_bracket_at (Sign Comma) t = refl
left_bracket_at (Word AndWord) t = refl
left_bracket_at _ t = refl

pub left_bracket : TakesBetween open_spot (sign_at LeftBracket) fresh
left_bracket = by_kinds (sign_at LeftBracket) open_spot fresh left_bracket_at

right_bracket_at : (k : TokenClass) (t : Token) → is_right open_spot fresh k (sign_at RightBracket (lexed k t)) ≡ true
right_bracket_at (Sign Comma) t = refl
right_bracket_at (Word AndWord) t = refl
right_bracket_at _ t = refl

pub right_bracket : TakesBetween open_spot (sign_at RightBracket) fresh
right_bracket = by_kinds (sign_at RightBracket) open_spot fresh right_bracket_at

colon_at : (k : TokenClass) (t : Token) → is_right open_spot fresh k (sign_at Colon (lexed k t)) ≡ true
colon_at (Sign Comma) t = refl
colon_at (Word AndWord) t = refl
colon_at _ t = refl

pub colon : TakesBetween open_spot (sign_at Colon) fresh
colon = by_kinds (sign_at Colon) open_spot fresh colon_at

bool_word_at : (k : TokenClass) (t : Token) → is_right open_spot fresh k (word_at BoolWord (lexed k t)) ≡ true
bool_word_at (Sign Comma) t = refl
bool_word_at (Word AndWord) t = refl
bool_word_at _ t = refl

pub bool_word : TakesBetween open_spot (word_at BoolWord) fresh
bool_word = by_kinds (word_at BoolWord) open_spot fresh bool_word_at

offset_word_at : (k : TokenClass) (t : Token) → is_right open_spot fresh k (word_at Offset (lexed k t)) ≡ true
offset_word_at (Sign Comma) t = refl
offset_word_at (Word AndWord) t = refl
offset_word_at _ t = refl

pub offset_word : TakesBetween open_spot (word_at Offset) fresh
offset_word = by_kinds (word_at Offset) open_spot fresh offset_word_at

a_minus_at : (k : TokenClass) (t : Token) → is_right open_spot fresh k (minus_at (lexed k t)) ≡ true
a_minus_at (Sign Comma) t = refl
a_minus_at (Word AndWord) t = refl
a_minus_at _ t = refl

pub a_minus : TakesBetween open_spot minus_at fresh
a_minus = by_kinds minus_at open_spot fresh a_minus_at

an_aggregation_at : (k : TokenClass) (t : Token) → is_right open_spot fresh k (aggregate_at (lexed k t)) ≡ true
an_aggregation_at (Sign Comma) t = refl
an_aggregation_at (Word AndWord) t = refl
an_aggregation_at _ t = refl

pub an_aggregation : TakesBetween open_spot aggregate_at fresh
an_aggregation = by_kinds aggregate_at open_spot fresh an_aggregation_at

a_function_at : (k : TokenClass) (t : Token) → is_right open_spot fresh k (function_at (lexed k t)) ≡ true
a_function_at (Sign Comma) t = refl
a_function_at (Word AndWord) t = refl
a_function_at _ t = refl

pub a_function : TakesBetween open_spot function_at fresh
a_function = by_kinds function_at open_spot fresh a_function_at

a_metric_at : (k : TokenClass) (t : Token) → is_right open_spot fresh k (metric_at (lexed k t)) ≡ true
a_metric_at (Sign Comma) t = refl
a_metric_at (Word AndWord) t = refl
a_metric_at _ t = refl

pub a_metric : TakesBetween open_spot metric_at fresh
a_metric = by_kinds metric_at open_spot fresh a_metric_at

a_literal_at : (k : TokenClass) (t : Token) → is_right open_spot fresh k (literal_at (lexed k t)) ≡ true
a_literal_at (Sign Comma) t = refl
a_literal_at (Word AndWord) t = refl
a_literal_at _ t = refl

pub a_literal : TakesBetween open_spot literal_at fresh
a_literal = by_kinds literal_at open_spot fresh a_literal_at

a_span_at : (k : TokenClass) (t : Token) → is_right open_spot fresh k (span_at (lexed k t)) ≡ true
a_span_at (Sign Comma) t = refl
a_span_at (Word AndWord) t = refl
a_span_at _ t = refl

pub a_span : TakesBetween open_spot span_at fresh
a_span = by_kinds span_at open_spot fresh a_span_at

a_shift_at : (k : TokenClass) (t : Token) → is_right open_spot fresh k (shift_at (lexed k t)) ≡ true
a_shift_at (Sign Comma) t = refl
a_shift_at (Word AndWord) t = refl
a_shift_at _ t = refl

pub a_shift : TakesBetween open_spot shift_at fresh
a_shift = by_kinds shift_at open_spot fresh a_shift_at

a_matching_at : (k : TokenClass) (t : Token) → is_right open_spot marked k (matching_at (lexed k t)) ≡ true
a_matching_at (Sign Comma) t = refl
a_matching_at (Word AndWord) t = refl
a_matching_at _ t = refl

pub a_matching : TakesBetween open_spot matching_at marked
a_matching = by_kinds matching_at open_spot marked a_matching_at

a_grouping_at : (k : TokenClass) (t : Token) → is_right open_spot marked k (grouping_at (lexed k t)) ≡ true
a_grouping_at (Sign Comma) t = refl
a_grouping_at (Word AndWord) t = refl
a_grouping_at _ t = refl

pub a_grouping : TakesBetween open_spot grouping_at marked
a_grouping = by_kinds grouping_at open_spot marked a_grouping_at

a_side_at : (k : TokenClass) (t : Token) → is_right open_spot marked k (side_at (lexed k t)) ≡ true
a_side_at (Sign Comma) t = refl
a_side_at (Word AndWord) t = refl
a_side_at _ t = refl

pub a_side : TakesBetween open_spot side_at marked
a_side = by_kinds side_at open_spot marked a_side_at

left_brace_at : (k : TokenClass) (t : Token) → is_right open_spot braced k (sign_at LeftBrace (lexed k t)) ≡ true
left_brace_at (Sign Comma) t = refl
left_brace_at (Word AndWord) t = refl
left_brace_at _ t = refl

pub left_brace : TakesBetween open_spot (sign_at LeftBrace) braced
left_brace = by_kinds (sign_at LeftBrace) open_spot braced left_brace_at

right_brace_at : (k : TokenClass) (t : Token) → is_right braced fresh k (sign_at RightBrace (lexed k t)) ≡ true
right_brace_at (Sign Comma) t = refl
right_brace_at (Word AndWord) t = refl
right_brace_at _ t = refl

pub right_brace : TakesBetween braced (sign_at RightBrace) fresh
right_brace = by_kinds (sign_at RightBrace) braced fresh right_brace_at

labels_end_at : (k : TokenClass) (t : Token) → is_right listed fresh k (sign_at RightParen (lexed k t)) ≡ true
labels_end_at (Sign Comma) t = refl
labels_end_at (Word AndWord) t = refl
labels_end_at _ t = refl

pub labels_end : TakesBetween listed (sign_at RightParen) fresh
labels_end = by_kinds (sign_at RightParen) listed fresh labels_end_at

label_comma_at : (k : TokenClass) (t : Token) → is_right listed listed k (sign_at Comma (lexed k t)) ≡ true
label_comma_at (Sign Comma) t = refl
label_comma_at (Word AndWord) t = refl
label_comma_at _ t = refl

pub label_comma : TakesBetween listed (sign_at Comma) listed
label_comma = by_kinds (sign_at Comma) listed listed label_comma_at

matcher_comma_at : (k : TokenClass) (t : Token) → is_right braced braced k (sign_at Comma (lexed k t)) ≡ true
matcher_comma_at (Sign Comma) t = refl
matcher_comma_at (Word AndWord) t = refl
matcher_comma_at _ t = refl

pub matcher_comma : TakesBetween braced (sign_at Comma) braced
matcher_comma = by_kinds (sign_at Comma) braced braced matcher_comma_at

a_match_at : (k : TokenClass) (t : Token) → is_right braced braced k (match_at (lexed k t)) ≡ true
a_match_at (Sign Comma) t = refl
a_match_at (Word AndWord) t = refl
a_match_at _ t = refl

pub a_match : TakesBetween braced match_at braced
a_match = by_kinds match_at braced braced a_match_at

a_text_at : (k : TokenClass) (t : Token) → is_right braced braced k (text_at (lexed k t)) ≡ true
a_text_at (Sign Comma) t = refl
a_text_at (Word AndWord) t = refl
a_text_at _ t = refl

pub a_text : TakesBetween braced text_at braced
a_text = by_kinds text_at braced braced a_text_at

a_label_at : (k : TokenClass) (t : Token) → is_right listed listed k (label_at false (lexed k t)) ≡ true
a_label_at (Sign Comma) t = refl
a_label_at (Word AndWord) t = refl
a_label_at _ t = refl

pub a_label : TakesBetween listed (label_at false) listed
a_label = by_kinds (label_at false) listed listed a_label_at

left_paren_at : (k : TokenClass) (t : Token) → is_right fresh fresh k (sign_at LeftParen (lexed k t)) ≡ true
left_paren_at (Sign Comma) t = refl
left_paren_at (Word AndWord) t = refl
left_paren_at _ t = refl

pub left_paren : TakesBetween fresh (sign_at LeftParen) fresh
left_paren = by_kinds (sign_at LeftParen) fresh fresh left_paren_at

labels_start_at : (k : TokenClass) (t : Token) → is_right marked listed k (sign_at LeftParen (lexed k t)) ≡ true
labels_start_at (Sign Comma) t = refl
labels_start_at (Word AndWord) t = refl
labels_start_at _ t = refl

pub labels_start : TakesBetween marked (sign_at LeftParen) listed
labels_start = by_kinds (sign_at LeftParen) marked listed labels_start_at

an_operator_at : (l : Level) (k : TokenClass) (t : Token) → is_right open_spot fresh k (operator_at l (lexed k t)) ≡ true
an_operator_at level.Or (Sign Comma) t = refl
an_operator_at level.Or (Word AndWord) t = refl
an_operator_at level.And (Sign Comma) t = refl
an_operator_at level.And (Word AndWord) t = refl
an_operator_at level.Comparison (Sign Comma) t = refl
an_operator_at level.Comparison (Word AndWord) t = refl
an_operator_at level.Sum (Sign Comma) t = refl
an_operator_at level.Sum (Word AndWord) t = refl
an_operator_at level.Product (Sign Comma) t = refl
an_operator_at level.Product (Word AndWord) t = refl
an_operator_at _ _ t = refl

pub an_operator : (l : Level) → TakesBetween open_spot (operator_at l) fresh
an_operator l = by_kinds (operator_at l) open_spot fresh (an_operator_at l)

a_matcher_label_at : (named : Bool) (k : TokenClass) (t : Token) → is_right braced braced k (label_at named (lexed k t)) ≡ true
a_matcher_label_at true (Sign Comma) t = refl
a_matcher_label_at true (Word AndWord) t = refl
a_matcher_label_at false (Sign Comma) t = refl
a_matcher_label_at false (Word AndWord) t = refl
a_matcher_label_at _ _ t = refl

pub a_matcher_label : (named : Bool) → TakesBetween braced (label_at named) braced
a_matcher_label named = by_kinds (label_at named) braced braced (a_matcher_label_at named)
