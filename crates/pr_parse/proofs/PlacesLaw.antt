-- What tokens are read as does not depend on where they stand, but for the places of nodes.
use Rattle.std.proofs.Common.{◌≡◌, ℕ, List, [], ◌∷◌, Option, Some, None, Bool, true, false, map, refl, ap, sym, ◌∙◌, subst}
use Rattle.std.specs.Prelude.{if◌then◌else◌, option_map}
use Rattle.pr_forms.specs.Form.{token, nothing, pair, either, turns, fold, chosen, rule, Reads, is_token, is_nothing, is_pair, is_left, is_right, is_stop, is_turn, is_fold, is_chosen, is_rule}
use Rattle.pr_ast.specs.declared.lex.token.Token.{Token}
use Rattle.pr_ast.specs.declared.lex.token.TokenKind.{TokenKind}
use Rattle.pr_ast.specs.declared.lex.token.Sign.{Sign as SignKind}
use Rattle.pr_ast.specs.declared.lex.token.Sign.TheVariants.{LeftBrace, RightBrace, LeftParen, RightParen, LeftBracket, RightBracket, Comma, Colon}
use Rattle.pr_ast.specs.declared.lex.words.Word.{Word as WordOf}
use Rattle.pr_ast.specs.declared.lex.words.Word.TheVariants.{Bool as BoolWord, Offset, Inf, NaN}
use Rattle.pr_ast.specs.private.Spaced.{kinds}
use Rattle.pr_ast.specs.declared.place.Place.{Place}
use Rattle.pr_ast.specs.Tree.{Tree, select, sub, call, none}
use Rattle.pr_ast.specs.private.Places.{nowhere, forget}
use Rattle.pr_parse.specs.declared.grammar.kind.TokenClass.{TokenClass}
use Rattle.pr_parse.specs.declared.grammar.kind.TokenClass.TheVariants.{Number, Text, Word}
use Rattle.pr_parse.specs.declared.grammar.kind.Level.{Level}
use Rattle.pr_parse.specs.declared.grammar.kind.Before.TheVariants.{Selector as Selectors, Range as Ranges, Other as Others}
use Rattle.pr_parse.specs.Seen.{Seen, lexed, seen_token, seen_tokens, kind_of, place_of}
use Rattle.pr_parse.specs.GrammarWhole.{Derives}
use Rattle.pr_parse.specs.Grammar.{production, expression, Rule, F, QueryValue, Suffix, in_range, in_subquery, by_offset, part, at, word, lasting, quoted, operation, operand, turn, matches, sided, included, grouped, paired, signed, names, labels, match_sign, match_text, matching, matchers, ended, braced, bare, suffixes, ranged, stepped, selection, function, arguments, closed, called, aggregator, grouper, grouping, aggregation, mark, through, range_made, offset_set, applied_to, selector_of, Binary, Modified, Matched, Grouped, Included, Unary, Postfix, Operand, Labels, MoreLabels, Matchers, MoreMatchers, Braced, Selection, Tail, Arguments, Aggregation, Parameters, After, InSelector, SelectorSpan, InOther, Step, Closing, Shift, sign_at, word_at, is_sign, is_word, operator_at, operator_of, matching_at, matching_of, grouping_at, grouping_of, minus_at, minus_of, side_at, side_of, match_at, match_of, aggregate_at, aggregate_of, function_at, function_of, is_label, label_at, is_metric, metric_at, literal_of, literal_at, is_text, text_at, is_span, span_at, shift_at, span_of, text_of, second_of, joined, turned, with_bool, unmatched, matched, named_by, ungrouped, grouped_by, including, including_none, signed_by, opened_by, closed_by, name_first, names_closed, match_of_text, match_before, match_first, matchers_closed, matchers_opened, applied, bracketed, range_closed, step_closed, with_step, shifted, selecting, named, unnamed, function_called, argument, arguments_closed, arguments_followed, grouping_made, grouped_before, grouped_after, aggregation_made, parameter, is_shift}

-- a token at no place
abbrev moved_token : TokenKind → Token
moved_token k = record { start = 0; end = 0; kind = k }

abbrev unplaced : Seen → Seen
unplaced (lexed k t) = lexed k (moved_token t.kind)

-- a value without its places
abbrev free : Suffix → Suffix
free (in_range d q) = in_range d nowhere
free (in_subquery d step q) = in_subquery d step nowhere
free (by_offset d q) = by_offset d nowhere

abbrev placeless : QueryValue → QueryValue
placeless (part p t) = part nowhere (forget t)
placeless (at p) = at nowhere
placeless (word p n) = word nowhere n
placeless (lasting p d) = lasting nowhere d
placeless (quoted t) = quoted t
placeless (operation o) = operation o
placeless (operand b m p t) = operand b m nowhere (forget t)
placeless (turn o b m p t) = turn o b m nowhere (forget t)
placeless (matches b) = matches b
placeless (sided card) = sided card
placeless (included ns p t) = included ns nowhere (forget t)
placeless (grouped card ns p t) = grouped card ns nowhere (forget t)
placeless (paired ns card include p t) = paired ns card include nowhere (forget t)
placeless (signed b p) = signed b nowhere
placeless (names ns) = names ns
placeless (labels ns p) = labels ns nowhere
placeless (match_sign s) = match_sign s
placeless (match_text s t) = match_text s t
placeless (matching s t ms) = matching s t ms
placeless (matchers ms) = matchers ms
placeless (ended ms p) = ended ms nowhere
placeless (braced ms p) = braced ms nowhere
placeless bare = bare
placeless (suffixes ss) = suffixes (map free ss)
placeless (ranged p ss) = ranged nowhere (map free ss)
placeless (stepped step p ss) = stepped step nowhere (map free ss)
placeless (selection v ss) = selection (placeless v) (map free ss)
placeless (function f p n) = function f nowhere n
placeless (arguments t) = arguments (forget t)
placeless (closed t p) = closed (forget t) nowhere
placeless (called t p ss) = called (forget t) nowhere (map free ss)
placeless (aggregator o p) = aggregator o nowhere
placeless (grouper b) = grouper b
placeless (grouping g p) = grouping g nowhere
placeless (aggregation g t p) = aggregation g (forget t) nowhere
placeless mark = mark

range_free : (p : Place) (d : ℕ) (t : Tree) → forget (range_made p d t) ≡ range_made nowhere d (forget t)
range_free p d none = refl
range_free p d _ = refl

offset_free : (p : Place) (d : ℕ) (t : Tree) → forget (offset_set p d t) ≡ offset_set nowhere d (forget t)
offset_free p d none = refl
offset_free p d _ = refl

suffixes_free : (p : Place) (t : Tree) (ss : List Suffix) → placeless (applied_to p t ss) ≡ applied_to nowhere (forget t) (map free ss)
suffixes_free p t [] = refl
suffixes_free p t (in_range d q ∷ ss) = suffixes_free (through p q) (range_made (through p q) d t) ss ∙ ap (λ u. applied_to nowhere u (map free ss)) (range_free (through p q) d t)
suffixes_free p t (in_subquery d step q ∷ ss) = suffixes_free (through p q) (sub (through p q) t d step 0) ss
suffixes_free p t (by_offset d q ∷ ss) = suffixes_free (through p q) (offset_set (through p q) d t) ss ∙ ap (λ u. applied_to nowhere u (map free ss)) (offset_free (through p q) d t)

-- What joins parts joins them alike wherever they stand.
abbrev Commutes : (QueryValue → QueryValue → QueryValue) → Type 0
Commutes c = (v w : QueryValue) → placeless (c v w) ≡ c (placeless v) (placeless w)

second_of_free : Commutes second_of
second_of_free v w = refl

joined_free : Commutes joined
joined_free (part p l) (turn o b m q r) = refl
joined_free _ _ = refl

turned_free : Commutes turned
turned_free (operation o) (operand b m q r) = refl
turned_free _ _ = refl

with_bool_free : Commutes with_bool
with_bool_free v (operand b m q r) = refl
with_bool_free _ _ = refl

unmatched_free : Commutes unmatched
unmatched_free v (part q r) = refl
unmatched_free _ _ = refl

matched_free : Commutes matched
matched_free (matches on) (paired ns card include q r) = refl
matched_free _ _ = refl

named_by_free : Commutes named_by
named_by_free (labels ns p) (grouped card include q r) = refl
named_by_free _ _ = refl

ungrouped_free : Commutes ungrouped
ungrouped_free v (part q r) = refl
ungrouped_free _ _ = refl

grouped_by_free : Commutes grouped_by
grouped_by_free (sided card) (included ns q r) = refl
grouped_by_free _ _ = refl

including_free : Commutes including
including_free (labels ns p) (part q r) = refl
including_free _ _ = refl

including_none_free : Commutes including_none
including_none_free v (part q r) = refl
including_none_free _ _ = refl

signed_by_free : Commutes signed_by
signed_by_free (signed true p) (part q t) = refl
signed_by_free (signed false p) (part q t) = refl
signed_by_free _ _ = refl

opened_by_free : Commutes opened_by
opened_by_free (at p) (part q t) = refl
opened_by_free _ _ = refl

closed_by_free : Commutes closed_by
closed_by_free (part p t) (at q) = refl
closed_by_free _ _ = refl

name_first_free : Commutes name_first
name_first_free (word p n) (names ns) = refl
name_first_free _ _ = refl

names_closed_free : Commutes names_closed
names_closed_free (names ns) (at q) = refl
names_closed_free _ _ = refl

match_of_text_free : Commutes match_of_text
match_of_text_free (match_sign s) (quoted t) = refl
match_of_text_free _ _ = refl

match_before_free : Commutes match_before
match_before_free (match_text s t) (matchers ms) = refl
match_before_free _ _ = refl

match_first_free : Commutes match_first
match_first_free (word p n) (matching s t ms) = refl
match_first_free _ _ = refl

matchers_closed_free : Commutes matchers_closed
matchers_closed_free (matchers ms) (at q) = refl
matchers_closed_free _ _ = refl

matchers_opened_free : Commutes matchers_opened
matchers_opened_free (at p) (ended ms q) = refl
matchers_opened_free _ _ = refl

applied_free : Commutes applied
applied_free (part p t) (suffixes ss) = suffixes_free p t ss
applied_free _ _ = refl

bracketed_free : Commutes bracketed
bracketed_free (lasting p d) (ranged q ss) = refl
bracketed_free (lasting p d) (stepped step q ss) = refl
bracketed_free _ _ = refl

range_closed_free : Commutes range_closed
range_closed_free (at q) (suffixes ss) = refl
range_closed_free _ _ = refl

step_closed_free : Commutes step_closed
step_closed_free (at q) (suffixes ss) = refl
step_closed_free _ _ = refl

with_step_free : Commutes with_step
with_step_free (lasting p d) (stepped step q ss) = refl
with_step_free _ _ = refl

shifted_free : Commutes shifted
shifted_free (lasting q d) (suffixes ss) = refl
shifted_free _ _ = refl

selecting_free : Commutes selecting
selecting_free v (suffixes ss) = refl
selecting_free _ _ = refl

named_free : Commutes named
named_free (word p n) (selection bare ss) = suffixes_free p (select p (selector_of (Some n) [])) ss
named_free (word p n) (selection (braced ms q) ss) = suffixes_free (through p q) (select (through p q) (selector_of (Some n) ms)) ss
named_free _ _ = refl

unnamed_free : Commutes unnamed
unnamed_free (braced ms q) (suffixes ss) = suffixes_free q (select q (selector_of None ms)) ss
unnamed_free _ _ = refl

function_called_free : Commutes function_called
function_called_free (function f p n) (called ts q ss) = suffixes_free (through p q) (call (through p q) f ts) ss
function_called_free (function f p n) (part a b) = named_free (word p n) (part a b)
function_called_free (function f p n) (at a) = named_free (word p n) (at a)
function_called_free (function f p n) (word a b) = named_free (word p n) (word a b)
function_called_free (function f p n) (lasting a b) = named_free (word p n) (lasting a b)
function_called_free (function f p n) (quoted a) = named_free (word p n) (quoted a)
function_called_free (function f p n) (operation a) = named_free (word p n) (operation a)
function_called_free (function f p n) (operand a b d e) = named_free (word p n) (operand a b d e)
function_called_free (function f p n) (turn a b d e g) = named_free (word p n) (turn a b d e g)
function_called_free (function f p n) (matches a) = named_free (word p n) (matches a)
function_called_free (function f p n) (sided a) = named_free (word p n) (sided a)
function_called_free (function f p n) (included a b d) = named_free (word p n) (included a b d)
function_called_free (function f p n) (grouped a b d e) = named_free (word p n) (grouped a b d e)
function_called_free (function f p n) (paired a b d e g) = named_free (word p n) (paired a b d e g)
function_called_free (function f p n) (signed a b) = named_free (word p n) (signed a b)
function_called_free (function f p n) (names a) = named_free (word p n) (names a)
function_called_free (function f p n) (labels a b) = named_free (word p n) (labels a b)
function_called_free (function f p n) (match_sign a) = named_free (word p n) (match_sign a)
function_called_free (function f p n) (match_text a b) = named_free (word p n) (match_text a b)
function_called_free (function f p n) (matching a b d) = named_free (word p n) (matching a b d)
function_called_free (function f p n) (matchers a) = named_free (word p n) (matchers a)
function_called_free (function f p n) (ended a b) = named_free (word p n) (ended a b)
function_called_free (function f p n) (braced a b) = named_free (word p n) (braced a b)
function_called_free (function f p n) bare = named_free (word p n) bare
function_called_free (function f p n) (suffixes a) = named_free (word p n) (suffixes a)
function_called_free (function f p n) (ranged a b) = named_free (word p n) (ranged a b)
function_called_free (function f p n) (stepped a b d) = named_free (word p n) (stepped a b d)
function_called_free (function f p n) (selection a b) = named_free (word p n) (selection a b)
function_called_free (function f p n) (function a b d) = named_free (word p n) (function a b d)
function_called_free (function f p n) (arguments a) = named_free (word p n) (arguments a)
function_called_free (function f p n) (closed a b) = named_free (word p n) (closed a b)
function_called_free (function f p n) (aggregator a b) = named_free (word p n) (aggregator a b)
function_called_free (function f p n) (grouper a) = named_free (word p n) (grouper a)
function_called_free (function f p n) (grouping a b) = named_free (word p n) (grouping a b)
function_called_free (function f p n) (aggregation a b d) = named_free (word p n) (aggregation a b d)
function_called_free (function f p n) mark = named_free (word p n) mark
function_called_free _ _ = refl

argument_free : Commutes argument
argument_free (arguments ts) (part p t) = refl
argument_free _ _ = refl

arguments_closed_free : Commutes arguments_closed
arguments_closed_free (arguments ts) (at q) = refl
arguments_closed_free _ _ = refl

arguments_followed_free : Commutes arguments_followed
arguments_followed_free (closed ts q) (suffixes ss) = refl
arguments_followed_free _ _ = refl

grouping_made_free : Commutes grouping_made
grouping_made_free (grouper by) (labels ns q) = refl
grouping_made_free _ _ = refl

grouped_before_free : Commutes grouped_before
grouped_before_free (grouping g p) (closed ts q) = refl
grouped_before_free _ _ = refl

grouped_after_free : Commutes grouped_after
grouped_after_free (closed ts q) (grouping g p) = refl
grouped_after_free (closed ts q) bare = refl
grouped_after_free _ _ = refl

aggregated_free : Commutes aggregation_made
aggregated_free (aggregator op p) (aggregation g ts q) = refl
aggregated_free _ _ = refl

parameter_free : Commutes parameter
parameter_free (part p t) (part q u) = refl
parameter_free (part p t) bare = refl
parameter_free _ _ = refl

-- A token stands for the same wherever it stands.
abbrev Same : (Seen → Option QueryValue) → Type 0
Same p = (s : Seen) → p (unplaced s) ≡ option_map placeless (p s)

from_if : (b : Bool) (v : QueryValue) → (if b then Some (placeless v) else None) ≡ option_map placeless (if b then Some v else None)
from_if true v = refl
from_if false v = refl

from_map : {A : Type 0} (f g : A → QueryValue) (o : Option A) → ((a : A) → g a ≡ placeless (f a)) → option_map g o ≡ option_map placeless (option_map f o)
from_map f g (Some a) h = ap Some (h a)
from_map f g None h = refl

sign_at_same : (s : SignKind) → Same (sign_at s)
sign_at_same s (lexed k t) = from_if (is_sign s k) (at (place_of t))

word_at_same : (w : WordOf) → Same (word_at w)
word_at_same w (lexed k t) = from_if (is_word w k) (at (place_of t))

operator_at_same : (l : Level) → Same (operator_at l)
operator_at_same l (lexed k t) = from_map operation operation (operator_of l k) (λ a. refl)

matching_at_same : Same (matching_at)
matching_at_same (lexed k t) = from_map matches matches (matching_of k) (λ a. refl)

grouping_at_same : Same (grouping_at)
grouping_at_same (lexed k t) = from_map grouper grouper (grouping_of k) (λ a. refl)

minus_at_same : Same (minus_at)
minus_at_same (lexed k t) = from_map (λ b. signed b (place_of t)) (λ b. signed b nowhere) (minus_of k) (λ a. refl)

side_at_same : Same (side_at)
side_at_same (lexed k t) = from_map sided sided (side_of k) (λ a. refl)

match_at_same : Same (match_at)
match_at_same (lexed k t) = from_map match_sign match_sign (match_of k) (λ a. refl)

aggregate_at_same : Same (aggregate_at)
aggregate_at_same (lexed k t) = from_map (λ op. aggregator op (place_of t)) (λ op. aggregator op nowhere) (aggregate_of k) (λ a. refl)

function_at_same : Same (function_at)
function_at_same (lexed k t) = from_map (λ f. function f (place_of t) (text_of t.kind)) (λ f. function f nowhere (text_of t.kind)) (function_of k) (λ a. refl)

label_at_same : (named : Bool) → Same (label_at named)
label_at_same named (lexed k t) = from_if (is_label named k) (word (place_of t) (text_of t.kind))

metric_at_same : Same (metric_at)
metric_at_same (lexed k t) = from_if (is_metric k) (word (place_of t) (text_of t.kind))

text_at_same : Same (text_at)
text_at_same (lexed k t) = from_if (is_text k) (quoted (text_of t.kind))

span_at_same : Same (span_at)
span_at_same (lexed k t) = from_if (is_span k) (lasting (place_of t) (span_of t.kind))

shift_at_same : Same (shift_at)
shift_at_same (lexed k t) = from_if (is_shift k) (lasting (place_of t) (span_of t.kind))

literal_free : (k : TokenClass) (t : TokenKind) (p : Place) → literal_of k t nowhere ≡ option_map forget (literal_of k t p)
literal_free Number t p = refl
literal_free Text t p = refl
literal_free (Word Inf) t p = refl
literal_free (Word NaN) t p = refl
literal_free _ t p = refl

from_literal : (p : Place) (o : Option Tree) → option_map (part nowhere) (option_map forget o) ≡ option_map placeless (option_map (part p) o)
from_literal p (Some u) = refl
from_literal p None = refl

literal_at_same : Same literal_at
literal_at_same (lexed k t) = ap (option_map (part nowhere)) (literal_free k t.kind (place_of t)) ∙ from_literal (place_of t) (literal_of k t.kind (place_of t))

-- The parts of a form do so.
abbrev Good : F → Type 0
Good (token p) = Same p
Good (nothing v) = Unit {0}
Good (pair c f g) = Commutes c × (Good f × Good g)
Good (either f g) = Good f × Good g
Good (turns c v g) = ⊥
Good (fold c f g) = Commutes c × (Good f × Good g)
Good (chosen q m) = ⊥
Good (rule n) = Unit {0}

good_rule : (n : Rule) → Good (production n)
good_rule (Binary l p) = (joined_free, (tt, (turned_free, (operator_at_same l, tt))))
good_rule (Modified l) = ((with_bool_free, (word_at_same BoolWord, tt)), tt)
good_rule (Matched l) = ((matched_free, (matching_at_same, (named_by_free, ((second_of_free, (sign_at_same LeftParen, (names_closed_free, (tt, sign_at_same RightParen)))), tt)))), (unmatched_free, (tt, tt)))
good_rule (Grouped l) = ((grouped_by_free, (side_at_same, tt)), (ungrouped_free, (tt, tt)))
good_rule (Included l) = ((including_free, ((second_of_free, (sign_at_same LeftParen, (names_closed_free, (tt, sign_at_same RightParen)))), tt)), (including_none_free, (tt, tt)))
good_rule (Unary p) = ((signed_by_free, (minus_at_same, tt)), tt)
good_rule (Postfix true) = ((applied_free, ((opened_by_free, (sign_at_same LeftParen, (closed_by_free, (tt, sign_at_same RightParen)))), tt)), tt)
good_rule (Postfix false) = tt
good_rule Operand = ((applied_free, (literal_at_same, tt)), ((named_free, (metric_at_same, tt)), ((function_called_free, (function_at_same, tt)), ((applied_free, ((aggregated_free, (aggregate_at_same, tt)), tt)), (unnamed_free, ((matchers_opened_free, (sign_at_same LeftBrace, (matchers_closed_free, (tt, sign_at_same RightBrace)))), tt))))))
good_rule Labels = ((name_first_free, (label_at_same false, tt)), tt)
good_rule MoreLabels = ((second_of_free, (sign_at_same Comma, tt)), tt)
good_rule (Matchers named) = ((match_first_free, (label_at_same named, (match_before_free, ((match_of_text_free, (match_at_same, text_at_same)), tt)))), tt)
good_rule (MoreMatchers named) = ((second_of_free, (sign_at_same Comma, tt)), tt)
good_rule Braced = ((matchers_opened_free, (sign_at_same LeftBrace, (matchers_closed_free, (tt, sign_at_same RightBrace)))), tt)
good_rule Selection = (selecting_free, (tt, tt))
good_rule Tail = ((second_of_free, (sign_at_same LeftParen, (arguments_followed_free, ((arguments_closed_free, (tt, sign_at_same RightParen)), tt)))), tt)
good_rule Arguments = ((argument_free, ((argument_free, (tt, tt)), (second_of_free, (sign_at_same Comma, tt)))), tt)
good_rule Aggregation = ((grouped_before_free, ((grouping_made_free, (grouping_at_same, (second_of_free, (sign_at_same LeftParen, (names_closed_free, (tt, sign_at_same RightParen)))))), (second_of_free, (sign_at_same LeftParen, (arguments_closed_free, (tt, sign_at_same RightParen)))))), (grouped_after_free, ((second_of_free, (sign_at_same LeftParen, (arguments_closed_free, (tt, sign_at_same RightParen)))), ((grouping_made_free, (grouping_at_same, (second_of_free, (sign_at_same LeftParen, (names_closed_free, (tt, sign_at_same RightParen)))))), tt))))
good_rule Parameters = (parameter_free, (tt, ((second_of_free, (sign_at_same Comma, tt)), tt)))
good_rule (After Selectors) = ((second_of_free, (sign_at_same LeftBracket, tt)), ((second_of_free, (word_at_same Offset, tt)), tt))
good_rule (After Ranges) = ((second_of_free, (word_at_same Offset, tt)), tt)
good_rule (After Others) = ((second_of_free, (sign_at_same LeftBracket, tt)), tt)
good_rule InSelector = (bracketed_free, (span_at_same, tt))
good_rule SelectorSpan = ((range_closed_free, (sign_at_same RightBracket, tt)), (second_of_free, (sign_at_same Colon, tt)))
good_rule InOther = (bracketed_free, (span_at_same, (second_of_free, (sign_at_same Colon, tt))))
good_rule Step = ((with_step_free, (span_at_same, tt)), tt)
good_rule Closing = (step_closed_free, (sign_at_same RightBracket, tt))
good_rule Shift = (shifted_free, (shift_at_same, tt))

-- The same is read from tokens that differ in places.
record Other (f : F) (us : List Seen) (v : QueryValue) (rest : List Seen) : Type 0 where
  left : List Seen
  value : QueryValue
  reads : Reads production f us value left
  same : placeless v ≡ placeless value
  after : map unplaced rest ≡ map unplaced left

given_value : (o : Option QueryValue) (w : QueryValue) → option_map placeless o ≡ Some w → (v : QueryValue) × ((o ≡ Some v) × (placeless v ≡ w))
given_value (Some v) w e = let same : placeless v ≡ w = cc in (v, (refl, same))
given_value None w e = absurd (cc)

joined_same : (c : QueryValue → QueryValue → QueryValue) → Commutes c → (v w x y : QueryValue) → placeless v ≡ placeless x → placeless w ≡ placeless y → placeless (c v w) ≡ placeless (c x y)
joined_same c j v w x y h k = j v w ∙ ap (λ z. c z (placeless w)) h ∙ ap (c (placeless x)) k ∙ sym (j x y)

mutual
  other : {f : F} {ts rest : List Seen} {v : QueryValue} → Reads production f ts v rest → Good f → (us : List Seen) → map unplaced ts ≡ map unplaced us → Other f us v rest
  other (is_token e) k [] h = absurd (cc)
  other (is_token {p = p} {t = t} {v = v} {rest = rest} e) k (u ∷ us) h =
      let first : unplaced t ≡ unplaced u = cc in
      let next : map unplaced rest ≡ map unplaced us = cc in
      let g = given_value (p u) (placeless v) (sym (k u) ∙ ap p (sym first) ∙ k t ∙ ap (option_map placeless) e) in
      record { left = us; value = g.0; reads = is_token g.1.0; same = sym g.1.1; after = next }
  other (is_nothing {v = v}) k us h = record { left = us; value = v; reads = is_nothing; same = refl; after = h }
  other (is_pair {c = c} {v = v} {w = w} d e) k us h =
      let a = other d k.1.0 us h in
      let b = other e k.1.1 a.left a.after in
      record { left = b.left; value = c a.value b.value; reads = is_pair a.reads b.reads; same = joined_same c k.0 v w a.value b.value a.same b.same; after = b.after }
  other (is_left d) k us h = let a = other d k.0 us h in record { left = a.left; value = a.value; reads = is_left a.reads; same = a.same; after = a.after }
  other (is_right d) k us h = let a = other d k.1 us h in record { left = a.left; value = a.value; reads = is_right a.reads; same = a.same; after = a.after }
  other is_stop k us h = absurd k
  other (is_turn d e) k us h = absurd k
  other (is_fold d e) k us h =
      let a = other d k.1.0 us h in
      let b = others e a.value a.same k.0 k.1.1 a.left a.after in
      record { left = b.left; value = b.value; reads = is_fold a.reads b.reads; same = b.same; after = b.after }
  other (is_chosen e l d) k us h = absurd k
  other (is_rule {n = n} d) k us h = let a = other d (good_rule n) us h in record { left = a.left; value = a.value; reads = is_rule a.reads; same = a.same; after = a.after }

  others : {c : QueryValue → QueryValue → QueryValue} {g : F} {ts rest : List Seen} {v x : QueryValue} → Reads production (turns c v g) ts x rest → (y : QueryValue) → placeless v ≡ placeless y → Commutes c → Good g → (us : List Seen) → map unplaced ts ≡ map unplaced us →
      Other (turns c y g) us x rest
  others is_stop y s j k us h = record { left = us; value = y; reads = is_stop; same = s; after = h }
  others (is_turn {c = c} {v = v} {w = w} d e) y s j k us h =
      let a = other d k us h in
      let b = others e (c y a.value) (joined_same c j v w y a.value s a.same) j k a.left a.after in
      record { left = b.left; value = b.value; reads = is_turn a.reads b.reads; same = b.same; after = b.after }

-- tokens with the same kinds
alike : (ts us : List Token) → kinds ts ≡ kinds us → map unplaced (seen_tokens ts) ≡ map unplaced (seen_tokens us)
alike [] [] h = refl
alike [] (u ∷ us) h = absurd (cc)
alike (t ∷ ts) [] h = absurd (cc)
alike (t ∷ ts) (u ∷ us) h =
    let first : t.kind ≡ u.kind = cc in
    let next : kinds ts ≡ kinds us = cc in
    ap (λ k. lexed (kind_of k) (moved_token k) ∷ map unplaced (seen_tokens ts)) first ∙ ap (λ ss. unplaced (seen_token u) ∷ ss) (alike ts us next)

none_left : (ss : List Seen) → [] ≡ map unplaced ss → ss ≡ []
none_left [] h = refl
none_left (s ∷ ss) h = absurd (cc)

-- a value that is a part but for places is one
is_part : (v : QueryValue) (t : Tree) → part nowhere (forget t) ≡ placeless v → (p : Place) × ((u : Tree) × ((v ≡ part p u) × (forget u ≡ forget t)))
is_part (part p u) t h = let same : forget t ≡ forget u = cc in (p, (u, (refl, sym same)))
is_part _ t h = absurd (cc)

pub derived_elsewhere : (ts us : List Token) (t : Tree) → kinds ts ≡ kinds us → Derives (seen_tokens ts) t → (u : Tree) × (Derives (seen_tokens us) u × (forget u ≡ forget t))
derived_elsewhere ts us t h d =
    let a = other d.1 tt (seen_tokens us) (alike ts us h) in
    let x = is_part a.value t a.same in
    let l = none_left a.left a.after in
    (x.1.0, ((x.0, read_as (seen_tokens us) a.value (part x.0 x.1.0) a.left l x.1.1.0 a.reads), x.1.1.1))
  where
    read_as : (ss : List Seen) (v w : QueryValue) (left : List Seen) → left ≡ [] → v ≡ w → Reads production (rule expression) ss v left → Reads production (rule expression) ss w []
    read_as ss v w left h k d = subst (λ x. Reads production (rule expression) ss x []) k (subst (λ r. Reads production (rule expression) ss v r) h d)
