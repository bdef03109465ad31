-- What the grammar reads has no step of 0.
use Rattle.std.proofs.Common.{◌≡◌, ◌&&◌, ℕ, List, [], ◌∷◌, Option, Some, None, Bool, true, false, refl, ap, sym, ◌∙◌}
use Rattle.std.specs.Prelude.{◌==◌, not, if◌then◌else◌, option_map}
use Rattle.std.specs.Str.{bytes_eq}
use Rattle.pr_forms.specs.Form.{token, nothing, pair, either, turns, fold, chosen, rule, Reads}
use Rattle.pr_forms.proofs.ByRules.{Each, Meets, by_token, by_nothing, by_pair, by_left, by_right, by_stop, by_turn, by_fold, by_choice, by_rule, by_rules}
use Rattle.pr_ast.specs.declared.lex.token.Token.{Token}
use Rattle.pr_ast.specs.declared.lex.token.TokenKind.{TokenKind}
use Rattle.pr_ast.specs.declared.lex.token.TokenKind.TheVariants.{Name as NameToken, Number as NumberToken, Duration as DurationToken, Text as TextToken, Sign as SignToken}
use Rattle.pr_ast.specs.declared.lex.words.Word.{Word as WordOf}
use Rattle.pr_ast.specs.Words.{word_of}
use Rattle.pr_ast.specs.declared.names.Func.{Func}
use Rattle.pr_ast.specs.Names.{func_of}
use Rattle.pr_ast.specs.declared.place.Place.{Place}
use Rattle.pr_ast.specs.Tree.{Tree, number, text, select, range, sub, call}
use Rattle.pr_ast.specs.private.Steps.{is_step, has_steps}
use Rattle.pr_ast.specs.pr_num.declared.value.Num.TheVariants.{NaN as NaNValue, PosInf}
use Rattle.pr_ast.specs.pr_labels.LabelSet.{metric_label}
use Rattle.pr_ast.specs.declared.lex.token.Sign.{Sign as SignKind}
use Rattle.pr_ast.specs.declared.lex.token.Sign.TheVariants.{LeftBrace, RightBrace, LeftParen, RightParen, LeftBracket, RightBracket, Comma, Colon}
use Rattle.pr_ast.specs.declared.lex.words.Word.TheVariants.{Bool as BoolWord, Offset, Inf, NaN}
use Rattle.pr_parse.specs.declared.grammar.kind.TokenClass.{TokenClass}
use Rattle.pr_parse.specs.declared.grammar.kind.TokenClass.TheVariants.{Number, Text, Span, ZeroSpan, Word, OwnName, WithColon, Plain}
use Rattle.pr_parse.specs.declared.grammar.kind.Level.{Level}
use Rattle.pr_parse.specs.declared.grammar.kind.Before.TheVariants.{Selector as Selectors, Range as Ranges, Other as Others}
use Rattle.pr_parse.specs.Seen.{Seen, lexed, seen_tokens, kind_of, word_kind, function_kind, has_colon, place_of}
use Rattle.pr_parse.specs.Grammar.{production, expression, Rule, F, QueryValue, Suffix, in_range, in_subquery, by_offset, part, at, word, lasting, quoted, operation, operand, turn, matches, sided, included, grouped, paired, signed, names, labels, match_sign, match_text, matching, matchers, ended, braced, bare, suffixes, ranged, stepped, selection, function, arguments, closed, called, aggregator, grouper, grouping, aggregation, through, range_made, offset_set, applied_to, selector_of, Binary, Modified, Matched, Grouped, Included, Unary, Postfix, Operand, Labels, MoreLabels, Matchers, MoreMatchers, Braced, Selection, Tail, Arguments, Aggregation, Parameters, After, InSelector, SelectorSpan, InOther, Step, Closing, Shift, sign_at, word_at, is_sign, is_word, operator_at, operator_of, matching_at, matching_of, grouping_at, grouping_of, minus_at, minus_of, side_at, side_of, match_at, match_of, aggregate_at, aggregate_of, function_at, function_of, is_label, label_at, is_metric, metric_at, literal_of, literal_at, is_text, text_at, span_at, span_of, text_of, shifted, second_of, joined, turned, with_bool, unmatched, matched, named_by, ungrouped, grouped_by, including, including_none, signed_by, opened_by, closed_by, name_first, names_closed, match_of_text, match_before, match_first, matchers_closed, matchers_opened, applied, bracketed, range_closed, step_closed, with_step, selecting, named, unnamed, function_called, argument, arguments_closed, arguments_followed, grouping_made, grouped_before, grouped_after, aggregation_made, parameter, number_of}

-- A token is seen with its own kind.
abbrev IsOwn : Seen → Type 0
IsOwn (lexed k t) = k ≡ kind_of t.kind

each_own : (ts : List Token) → Each IsOwn (seen_tokens ts)
each_own [] = tt
each_own (t ∷ ts) = (refl, each_own ts)

-- no suffix gives a step of 0
abbrev fine : Suffix → Bool
fine (in_subquery span step q) = is_step step
fine (in_range span q) = true
fine (by_offset span q) = true

abbrev all_fine : List Suffix → Bool
all_fine [] = true
all_fine (s ∷ ss) = fine s && all_fine ss

-- Nothing that the value holds has a step of 0, and a span that may become a step is none.
abbrev good : QueryValue → Bool
good (part p t) = has_steps t
good (lasting p d) = not (d == 0)
good (operand b m p t) = has_steps t
good (turn o b m p t) = has_steps t
good (included ns p t) = has_steps t
good (grouped card ns p t) = has_steps t
good (paired ns card include p t) = has_steps t
good (suffixes ss) = all_fine ss
good (ranged p ss) = all_fine ss
good (stepped step p ss) = is_step step && all_fine ss
good (selection v ss) = all_fine ss
good (arguments t) = has_steps t
good (closed t p) = has_steps t
good (called t p ss) = has_steps t && all_fine ss
good (aggregation g t p) = has_steps t
good _ = true

pub both : (a b : Bool) → a ≡ true → b ≡ true → a && b ≡ true
both a b h k = rw (h, k) refl

left_of : (a b : Bool) → a && b ≡ true → a ≡ true
left_of true b h = refl
left_of false b h = h

right_of : (a b : Bool) → a && b ≡ true → b ≡ true
right_of true b h = h
right_of false b h = absurd (cc)

range_good : (p : Place) (d : ℕ) (t : Tree) → has_steps t ≡ true → has_steps (range_made p d t) ≡ true
range_good p d (select q s) h = refl
range_good p d _ h = h

offset_good : (p : Place) (d : ℕ) (t : Tree) → has_steps t ≡ true → has_steps (offset_set p d t) ≡ true
offset_good p d (select q s) h = refl
offset_good p d (range q s span) h = refl
offset_good p d (sub q t span step offset) h = h
offset_good p d _ h = h

suffixes_good : (p : Place) (t : Tree) (ss : List Suffix) → has_steps t ≡ true → all_fine ss ≡ true → good (applied_to p t ss) ≡ true
suffixes_good p t [] h k = h
suffixes_good p t (in_range d q ∷ ss) h k = suffixes_good (through p q) (range_made (through p q) d t) ss (range_good (through p q) d t h) k
suffixes_good p t (in_subquery d step q ∷ ss) h k =
    suffixes_good (through p q) (sub (through p q) t d step 0) ss (both (is_step step) (has_steps t) (left_of (is_step step) (all_fine ss) k) h) (right_of (is_step step) (all_fine ss) k)
suffixes_good p t (by_offset d q ∷ ss) h k = suffixes_good (through p q) (offset_set (through p q) d t) ss (offset_good (through p q) d t h) k

-- What joins parts keeps that.
abbrev Joins : (QueryValue → QueryValue → QueryValue) → Type 0
Joins c = (v w : QueryValue) → good v ≡ true → good w ≡ true → good (c v w) ≡ true

second_of_good : Joins second_of
second_of_good v w h k = k

joined_good : Joins joined
joined_good (part p l) (turn o b m q r) h k = both (has_steps l) (has_steps r) h k
joined_good _ _ h k = refl

turned_good : Joins turned
turned_good (operation o) (operand b m q r) h k = k
turned_good _ _ h k = refl

with_bool_good : Joins with_bool
with_bool_good v (operand b m q r) h k = k
with_bool_good _ _ h k = refl

unmatched_good : Joins unmatched
unmatched_good v (part q r) h k = k
unmatched_good _ _ h k = refl

matched_good : Joins matched
matched_good (matches on) (paired ns card include q r) h k = k
matched_good _ _ h k = refl

named_by_good : Joins named_by
named_by_good (labels ns p) (grouped card include q r) h k = k
named_by_good _ _ h k = refl

ungrouped_good : Joins ungrouped
ungrouped_good v (part q r) h k = k
ungrouped_good _ _ h k = refl

grouped_by_good : Joins grouped_by
grouped_by_good (sided card) (included ns q r) h k = k
grouped_by_good _ _ h k = refl

including_good : Joins including
including_good (labels ns p) (part q r) h k = k
including_good _ _ h k = refl

including_none_good : Joins including_none
including_none_good v (part q r) h k = k
including_none_good _ _ h k = refl

signed_by_good : Joins signed_by
signed_by_good (signed true p) (part q t) h k = k
signed_by_good (signed false p) (part q t) h k = k
signed_by_good _ _ h k = refl

opened_by_good : Joins opened_by
opened_by_good (at p) (part q t) h k = k
opened_by_good _ _ h k = refl

closed_by_good : Joins closed_by
closed_by_good (part p t) (at q) h k = h
closed_by_good _ _ h k = refl

name_first_good : Joins name_first
name_first_good (word p n) (names ns) h k = refl
name_first_good _ _ h k = refl

names_closed_good : Joins names_closed
names_closed_good (names ns) (at q) h k = refl
names_closed_good _ _ h k = refl

match_of_text_good : Joins match_of_text
match_of_text_good (match_sign s) (quoted t) h k = refl
match_of_text_good _ _ h k = refl

match_before_good : Joins match_before
match_before_good (match_text s t) (matchers ms) h k = refl
match_before_good _ _ h k = refl

match_first_good : Joins match_first
match_first_good (word p n) (matching s t ms) h k = refl
match_first_good _ _ h k = refl

matchers_closed_good : Joins matchers_closed
matchers_closed_good (matchers ms) (at q) h k = refl
matchers_closed_good _ _ h k = refl

matchers_opened_good : Joins matchers_opened
matchers_opened_good (at p) (ended ms q) h k = refl
matchers_opened_good _ _ h k = refl

applied_good : Joins applied
applied_good (part p t) (suffixes ss) h k = suffixes_good p t ss h k
applied_good _ _ h k = refl

bracketed_good : Joins bracketed
bracketed_good (lasting p d) (ranged q ss) h k = k
bracketed_good (lasting p d) (stepped step q ss) h k = k
bracketed_good _ _ h k = refl

range_closed_good : Joins range_closed
range_closed_good (at q) (suffixes ss) h k = k
range_closed_good _ _ h k = refl

step_closed_good : Joins step_closed
step_closed_good (at q) (suffixes ss) h k = k
step_closed_good _ _ h k = refl

with_step_good : Joins with_step
with_step_good (lasting p d) (stepped step q ss) h k = both (not (d == 0)) (all_fine ss) h (right_of (is_step step) (all_fine ss) k)
with_step_good _ _ h k = refl

selecting_good : Joins selecting
selecting_good v (suffixes ss) h k = k
selecting_good _ _ h k = refl

named_good : Joins named
named_good (word p n) (selection bare ss) h k = suffixes_good p (select p (selector_of (Some n) [])) ss refl k
named_good (word p n) (selection (braced ms q) ss) h k = suffixes_good (through p q) (select (through p q) (selector_of (Some n) ms)) ss refl k
named_good _ _ h k = refl

unnamed_good : Joins unnamed
unnamed_good (braced ms q) (suffixes ss) h k = suffixes_good q (select q (selector_of None ms)) ss refl k
unnamed_good _ _ h k = refl

function_called_good : Joins function_called
function_called_good (function f p n) (called ts q ss) h k = suffixes_good (through p q) (call (through p q) f ts) ss (left_of (has_steps ts) (all_fine ss) k) (right_of (has_steps ts) (all_fine ss) k)
function_called_good (function f p n) v h k = named_good (word p n) v refl k
function_called_good _ _ h k = refl

argument_good : Joins argument
argument_good (arguments ts) (part p t) h k = both (has_steps ts) (has_steps t) h k
argument_good _ _ h k = refl

arguments_closed_good : Joins arguments_closed
arguments_closed_good (arguments ts) (at q) h k = h
arguments_closed_good _ _ h k = refl

arguments_followed_good : Joins arguments_followed
arguments_followed_good (closed ts q) (suffixes ss) h k = both (has_steps ts) (all_fine ss) h k
arguments_followed_good _ _ h k = refl

grouping_made_good : Joins grouping_made
grouping_made_good (grouper by) (labels ns q) h k = refl
grouping_made_good _ _ h k = refl

grouped_before_good : Joins grouped_before
grouped_before_good (grouping g p) (closed ts q) h k = k
grouped_before_good _ _ h k = refl

grouped_after_good : Joins grouped_after
grouped_after_good (closed ts q) (grouping g p) h k = h
grouped_after_good (closed ts q) bare h k = h
grouped_after_good _ _ h k = refl

aggregated_good : Joins aggregation_made
aggregated_good (aggregator op p) (aggregation g ts q) h k = k
aggregated_good _ _ h k = refl

parameter_good : Joins parameter
parameter_good (part p t) (part q u) h k = both (has_steps t) (has_steps u) h k
parameter_good (part p t) bare h k = h
parameter_good _ _ h k = refl

-- What a token stands for keeps it.
abbrev Stands : (Seen → Option QueryValue) → Type 0
Stands p = (t : Seen) → IsOwn t → (v : QueryValue) → p t ≡ Some v → good v ≡ true

from_if : (b : Bool) (v w : QueryValue) → good v ≡ true → (if b then Some v else None) ≡ Some w → good w ≡ true
from_if true v w g e = let same : v ≡ w = cc in ap good (sym same) ∙ g
from_if false v w g e = absurd (cc)

from_map : {A : Type 0} (f : A → QueryValue) (o : Option A) (w : QueryValue) → ((a : A) → good (f a) ≡ true) → option_map f o ≡ Some w → good w ≡ true
from_map f (Some a) w g e = let same : f a ≡ w = cc in ap good (sym same) ∙ g a
from_map f None w g e = absurd (cc)

sign_at_stands : (s : SignKind) → Stands (sign_at s)
sign_at_stands s (lexed k t) own v e = from_if (is_sign s k) (at (place_of t)) v refl e

word_at_stands : (w : WordOf) → Stands (word_at w)
word_at_stands w (lexed k t) own v e = from_if (is_word w k) (at (place_of t)) v refl e

operator_at_stands : (l : Level) → Stands (operator_at l)
operator_at_stands l (lexed k t) own v e = from_map operation (operator_of l k) v (λ a. refl) e

matching_at_stands : Stands (matching_at)
matching_at_stands (lexed k t) own v e = from_map matches (matching_of k) v (λ a. refl) e

grouping_at_stands : Stands (grouping_at)
grouping_at_stands (lexed k t) own v e = from_map grouper (grouping_of k) v (λ a. refl) e

minus_at_stands : Stands (minus_at)
minus_at_stands (lexed k t) own v e = from_map (λ b. signed b (place_of t)) (minus_of k) v (λ a. refl) e

side_at_stands : Stands (side_at)
side_at_stands (lexed k t) own v e = from_map sided (side_of k) v (λ a. refl) e

match_at_stands : Stands (match_at)
match_at_stands (lexed k t) own v e = from_map match_sign (match_of k) v (λ a. refl) e

aggregate_at_stands : Stands (aggregate_at)
aggregate_at_stands (lexed k t) own v e = from_map (λ op. aggregator op (place_of t)) (aggregate_of k) v (λ a. refl) e

function_at_stands : Stands (function_at)
function_at_stands (lexed k t) own v e = from_map (λ f. function f (place_of t) (text_of t.kind)) (function_of k) v (λ a. refl) e

label_at_stands : (named : Bool) → Stands (label_at named)
label_at_stands named (lexed k t) own v e = from_if (is_label named k) (word (place_of t) (text_of t.kind)) v refl e

metric_at_stands : Stands (metric_at)
metric_at_stands (lexed k t) own v e = from_if (is_metric k) (word (place_of t) (text_of t.kind)) v refl e

text_at_stands : Stands (text_at)
text_at_stands (lexed k t) own v e = from_if (is_text k) (quoted (text_of t.kind)) v refl e

literal_good : (k : TokenClass) (t : TokenKind) (p : Place) (u : Tree) → literal_of k t p ≡ Some u → has_steps u ≡ true
literal_good Number t p u e = let same : number p (number_of t) ≡ u = cc in ap has_steps (sym same)
literal_good Text t p u e = let same : text p (text_of t) ≡ u = cc in ap has_steps (sym same)
literal_good (Word Inf) t p u e = let same : number p PosInf ≡ u = cc in ap has_steps (sym same)
literal_good (Word NaN) t p u e = let same : number p NaNValue ≡ u = cc in ap has_steps (sym same)
literal_good _ t p u e = absurd (cc)

from_literal : (p : Place) (o : Option Tree) (v : QueryValue) → ((u : Tree) → o ≡ Some u → has_steps u ≡ true) → option_map (part p) o ≡ Some v → good v ≡ true
from_literal p (Some u) v g e = let same : part p u ≡ v = cc in ap good (sym same) ∙ g u refl
from_literal p None v g e = absurd (cc)

literal_at_stands : Stands literal_at
literal_at_stands (lexed k t) own v e = from_literal (place_of t) (literal_of k t.kind (place_of t)) v (λ u h. literal_good k t.kind (place_of t) u h) e

-- a name is no span
other_no_span : (a b : Bool) → (if a then OwnName else (if b then WithColon else Plain)) ≡ Span → ⊥
other_no_span true b e = cc
other_no_span false true e = cc
other_no_span false false e = cc

function_no_span : (o : Option Func) (n : List ℕ) → function_kind o n ≡ Span → ⊥
function_no_span (Some f) n e = cc
function_no_span None n e = other_no_span (bytes_eq n metric_label) (has_colon n) e

word_no_span : (o : Option WordOf) (n : List ℕ) → word_kind o n ≡ Span → ⊥
word_no_span (Some w) n e = cc
word_no_span None n e = function_no_span (func_of n) n e

span_not_0 : (b : Bool) → (if b then ZeroSpan else Span) ≡ Span → not b ≡ true
span_not_0 true e = cc
span_not_0 false e = refl

span_good : (t : TokenKind) → kind_of t ≡ Span → not (span_of t == 0) ≡ true
span_good (NameToken n) e = absurd (word_no_span (word_of n) n e)
span_good (DurationToken ms) e = span_not_0 (ms == 0) e
span_good (NumberToken n) e = absurd (cc)
span_good (TextToken n) e = absurd (cc)
span_good (SignToken s) e = absurd (cc)

span_at_stands : Stands span_at
span_at_stands (lexed Span t) own v e = let same : lasting (place_of t) (span_of t.kind) ≡ v = cc in ap good (sym same) ∙ span_good t.kind (sym own)
span_at_stands (lexed _ t) own v e = absurd (cc)

-- The parts of a form keep it.
abbrev Keeps : F → Type 0
Keeps (token p) = Stands p
Keeps (nothing v) = good v ≡ true
Keeps (pair c f g) = Joins c × (Keeps f × Keeps g)
Keeps (either f g) = Keeps f × Keeps g
Keeps (turns c v g) = Joins c × ((good v ≡ true) × Keeps g)
Keeps (fold c f g) = Joins c × (Keeps f × Keeps g)
Keeps (chosen q m) = ⊥
Keeps (rule n) = Unit {0}

abbrev Holds : Rule → QueryValue → Type 0
Holds n v = good v ≡ true

kept : {f : F} {v : QueryValue} → Keeps f → Meets IsOwn Holds f v → good v ≡ true
kept k (by_token own e) = k _ own _ e
kept k by_nothing = k
kept k (by_pair a b) = k.0 _ _ (kept k.1.0 a) (kept k.1.1 b)
kept k (by_left a) = kept k.0 a
kept k (by_right a) = kept k.1 a
kept k by_stop = k.1.0
kept k (by_turn a b) = kept (k.0, (k.0 _ _ k.1.0 (kept k.1.1 a), k.1.1)) b
kept k (by_fold a b) = kept (k.0, (kept k.1.0 a, k.1.1)) b
kept k (by_choice own e p) = absurd k
kept k (by_rule p) = p

-- an offset may be 0, and is no step
shifted_good : (v w : QueryValue) → good w ≡ true → good (shifted v w) ≡ true
shifted_good (lasting q d) (suffixes ss) k = k
shifted_good _ _ k = refl

rules_keep : (n : Rule) {v : QueryValue} → Meets IsOwn Holds (production n) v → good v ≡ true
rules_keep (Binary l p) m = kept (joined_good, (tt, (turned_good, (operator_at_stands l, tt)))) m
rules_keep (Modified l) m = kept ((with_bool_good, (word_at_stands BoolWord, tt)), tt) m
rules_keep (Matched l) m = kept ((matched_good, (matching_at_stands, (named_by_good, ((second_of_good, (sign_at_stands LeftParen, (names_closed_good, (tt, sign_at_stands RightParen)))), tt)))), (unmatched_good, (refl, tt))) m
rules_keep (Grouped l) m = kept ((grouped_by_good, (side_at_stands, tt)), (ungrouped_good, (refl, tt))) m
rules_keep (Included l) m = kept ((including_good, ((second_of_good, (sign_at_stands LeftParen, (names_closed_good, (tt, sign_at_stands RightParen)))), tt)), (including_none_good, (refl, tt))) m
rules_keep (Unary p) m = kept ((signed_by_good, (minus_at_stands, tt)), tt) m
rules_keep (Postfix true) m = kept ((applied_good, ((opened_by_good, (sign_at_stands LeftParen, (closed_by_good, (tt, sign_at_stands RightParen)))), tt)), tt) m
rules_keep (Postfix false) m = kept tt m
rules_keep Operand m = kept ((applied_good, (literal_at_stands, tt)), ((named_good, (metric_at_stands, tt)), ((function_called_good, (function_at_stands, tt)), ((applied_good, ((aggregated_good, (aggregate_at_stands, tt)), tt)), (unnamed_good, ((matchers_opened_good, (sign_at_stands LeftBrace, (matchers_closed_good, (tt, sign_at_stands RightBrace)))), tt)))))) m
rules_keep Labels m = kept ((name_first_good, (label_at_stands false, tt)), refl) m
rules_keep MoreLabels m = kept ((second_of_good, (sign_at_stands Comma, tt)), refl) m
rules_keep (Matchers named) m = kept ((match_first_good, (label_at_stands named, (match_before_good, ((match_of_text_good, (match_at_stands, text_at_stands)), tt)))), refl) m
rules_keep (MoreMatchers named) m = kept ((second_of_good, (sign_at_stands Comma, tt)), refl) m
rules_keep Braced m = kept ((matchers_opened_good, (sign_at_stands LeftBrace, (matchers_closed_good, (tt, sign_at_stands RightBrace)))), refl) m
rules_keep Selection m = kept (selecting_good, (tt, tt)) m
rules_keep Tail m = kept ((second_of_good, (sign_at_stands LeftParen, (arguments_followed_good, ((arguments_closed_good, (tt, sign_at_stands RightParen)), tt)))), tt) m
rules_keep Arguments m = kept ((argument_good, ((argument_good, (refl, tt)), (second_of_good, (sign_at_stands Comma, tt)))), refl) m
rules_keep Aggregation m = kept ((grouped_before_good, ((grouping_made_good, (grouping_at_stands, (second_of_good, (sign_at_stands LeftParen, (names_closed_good, (tt, sign_at_stands RightParen)))))), (second_of_good, (sign_at_stands LeftParen, (arguments_closed_good, (tt, sign_at_stands RightParen)))))), (grouped_after_good, ((second_of_good, (sign_at_stands LeftParen, (arguments_closed_good, (tt, sign_at_stands RightParen)))), ((grouping_made_good, (grouping_at_stands, (second_of_good, (sign_at_stands LeftParen, (names_closed_good, (tt, sign_at_stands RightParen)))))), refl)))) m
rules_keep Parameters m = kept (parameter_good, (tt, ((second_of_good, (sign_at_stands Comma, tt)), refl))) m
rules_keep (After Selectors) m = kept ((second_of_good, (sign_at_stands LeftBracket, tt)), ((second_of_good, (word_at_stands Offset, tt)), refl)) m
rules_keep (After Ranges) m = kept ((second_of_good, (word_at_stands Offset, tt)), tt) m
rules_keep (After Others) m = kept ((second_of_good, (sign_at_stands LeftBracket, tt)), refl) m
rules_keep InSelector m = kept (bracketed_good, (span_at_stands, tt)) m
rules_keep SelectorSpan m = kept ((range_closed_good, (sign_at_stands RightBracket, tt)), (second_of_good, (sign_at_stands Colon, tt))) m
rules_keep InOther m = kept (bracketed_good, (span_at_stands, (second_of_good, (sign_at_stands Colon, tt)))) m
rules_keep Step m = kept ((with_step_good, (span_at_stands, tt)), tt) m
rules_keep Closing m = kept (step_closed_good, (sign_at_stands RightBracket, tt)) m
rules_keep Shift (by_pair {v = v} {w = w} a (by_rule h)) = shifted_good v w h

rule_value : {n : Rule} {v : QueryValue} → Meets IsOwn Holds (rule n) v → good v ≡ true
rule_value (by_rule h) = h

-- the tree of an expression has no step of 0
pub read_has_steps : (ts : List Token) (p : Place) (t : Tree) → Reads production (rule expression) (seen_tokens ts) (part p t) [] → has_steps t ≡ true
read_has_steps ts p t d = rule_value (by_rules production IsOwn Holds (λ n v m. rules_keep n m) d (each_own ts))
