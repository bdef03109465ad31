-- The trees that are read from the tokens of a text are readable.
use Rattle.std.proofs.Common.{◌≡◌, ℕ, Option, Some, None, Bool, true, false, List, [], ◌∷◌, refl, ap, sym, ◌∙◌, subst, lit≤}
use Rattle.std.specs.Prelude.{◌==◌, option_map, if◌then◌else◌}
use Rattle.std.specs.Str.{bytes_eq}
use Rattle.pr_forms.specs.Form.{token, pair, turns, rule}
use Rattle.pr_forms.proofs.ByRules.{Meets, by_token, by_nothing, by_pair, by_left, by_right, by_stop, by_turn, by_fold, by_rule, by_rules}
use Rattle.pr_num.specs.declared.value.Num.{Num}
use Rattle.pr_num.specs.declared.value.Num.TheVariants.{PosInf, NaN as NaNValue}
use Rattle.pr_ast.specs.declared.lex.token.Token.{Token}
use Rattle.pr_ast.specs.declared.lex.token.TokenKind.{TokenKind}
use Rattle.pr_ast.specs.declared.lex.token.TokenKind.TheVariants.{Name as NameToken, Number as NumberToken, Duration as DurationToken, Text as TextToken, Sign as SignToken}
use Rattle.pr_ast.specs.declared.lex.words.Word.{Word as WordOf}
use Rattle.pr_ast.specs.declared.lex.words.Word.TheVariants.{GroupLeft, GroupRight, Inf, NaN}
use Rattle.pr_ast.specs.declared.lex.token.Sign.{Sign as SignOf}
use Rattle.pr_ast.specs.declared.lex.token.Sign.TheVariants.{LeftBrace, RightBrace, LeftParen, RightParen, RightBracket}
use Rattle.pr_ast.specs.Tokens.{HasTokens}
use Rattle.pr_ast.specs.Words.{word_of}
use Rattle.pr_ast.specs.private.Spelled.{IsNameText}
use Rattle.pr_labels.specs.declared.grouping.Grouping.{Grouping}
use Rattle.pr_labels.specs.declared.matching.Matching.{Matching}
use Rattle.pr_labels.specs.declared.matching.Card.{Card}
use Rattle.pr_labels.specs.declared.matching.Card.TheVariants.{ManyToOne, OneToMany}
use Rattle.pr_labels.specs.LabelSet.{metric_label}
use Rattle.pr_ast.specs.declared.place.Place.{Place}
use Rattle.pr_ast.specs.declared.selector.MatchText.{MatchText}
use Rattle.pr_ast.specs.declared.names.Func.{Func}
use Rattle.pr_ast.specs.declared.names.AggOp.{AggOp}
use Rattle.pr_ast.specs.declared.names.BinOp.{BinOp}
use Rattle.pr_ast.specs.Names.{func_of}
use Rattle.pr_ast.specs.Tree.{Tree, number, text, select, sub, call, aggregate, none, more}
use Rattle.pr_parse.specs.declared.grammar.kind.TokenClass.{TokenClass}
use Rattle.pr_parse.specs.declared.grammar.kind.TokenClass.TheVariants.{Number, Text, Span, ZeroSpan, Word, Function, OwnName, WithColon, Plain, Sign}
use Rattle.pr_parse.specs.declared.grammar.kind.Level.{Level}
use Rattle.pr_parse.specs.declared.grammar.kind.Level.TheVariants.{Or, And, Comparison, Sum, Product}
use Rattle.pr_parse.specs.declared.grammar.kind.Before.TheVariants.{Selector as Selectors, Range as Ranges, Other as Others}
use Rattle.pr_parse.specs.Seen.{Seen, lexed, seen_tokens, kind_of, name_kind, word_kind, function_kind, has_colon, place_of}
use Rattle.pr_parse.specs.GrammarWhole.{Derives}
use Rattle.pr_parse.specs.Grammar.{production, Rule, F, QueryValue, Suffix, in_range, in_subquery, by_offset, part, at, word, lasting, quoted, operation, operand, turn, matches, sided, included, grouped, signed, names, labels, match_sign, matchers, braced, bare, suffixes, ranged, stepped, selection, function, arguments, closed, called, aggregator, grouper, grouping, aggregation, through, range_made, offset_set, applied_to, selector_of, Binary, Modified, Matched, Grouped, Included, Unary, Postfix, Operand, Labels, MoreLabels, Matchers, MoreMatchers, Braced, Selection, Tail, Arguments, Aggregation, Parameters, After, InSelector, SelectorSpan, InOther, Step, Closing, Shift, sign_at, word_at, is_sign, is_word, operator_at, operator_of, matching_at, matching_of, grouping_at, grouping_of, minus_at, minus_of, side_at, side_of, match_at, match_of, aggregate_at, aggregate_of, function_at, function_of, is_label, label_at, is_metric, metric_at, literal_of, literal_at, is_text, text_at, is_span, is_shift, span_at, shift_at, span_of, text_of, number_of, joined, right_side, argument, next_argument, label_list, matcher_list, group, parameters, named, second_of, names_closed, turned, with_bool, unmatched, matched, named_by, ungrouped, grouped_by, including, including_none, signed_by, opened_by, closed_by, name_first, match_of_text, match_before, match_first, matchers_closed, matchers_opened, applied, shifted, bracketed, range_closed, step_closed, with_step, selecting, unnamed, function_called, arguments_closed, arguments_followed, grouping_made, grouped_before, grouped_after, aggregation_made, parameter, tighter}
use Rattle.pr_parse.proofs.TokenValues.{IsAt, is_at, IsOperation, is_operation, IsSigned, is_signed, IsMatches, is_matches, IsGrouper, is_grouper, IsAggregator, is_aggregator, IsQuoted, is_quoted, IsMatchSign, is_match_sign}
use Rattle.laws_language.proofs.Readable.{IsLabel, IsMetric, metric_name, function_name, AllLabels, AllMatchers, IsOffset, IsSpan, IsStep, IsSide, IsMatching, IsUnsigned, IsReadable, a_number, a_text, a_select, a_range, a_sub, a_neg, a_binary, a_call, an_aggregate, a_parameter, no_args, more_args}
use Rattle.laws_language.proofs.Lexemes.{IsHeld, IsOwn, IsProper, IsDigits, tokens_are_proper}

-- what follows a primary
abbrev IsSuffix : Suffix → Type 0
IsSuffix (in_range d q) = IsSpan d
IsSuffix (in_subquery d step q) = IsSpan d × IsStep step
IsSuffix (by_offset d q) = IsOffset d

abbrev AllSuffixes : List Suffix → Type 0
AllSuffixes [] = Unit {0}
AllSuffixes (s ∷ ss) = IsSuffix s × AllSuffixes ss

-- the one or two arguments of an aggregation
data AreGiven : Tree → Type 0 where
  one_given : {t : Tree} → IsReadable true t → AreGiven (more none t)
  two_given : {t u : Tree} → IsReadable true t → IsReadable true u → AreGiven (more (more none t) u)

-- What the values of forms are.
data IsPart : QueryValue → Type 0 where
  is_part : {p : Place} {t : Tree} → IsReadable true t → IsPart (part p t)

data IsLabelWord (named : Bool) : QueryValue → Type 0 where
  is_label_word : {p : Place} {n : List ℕ} → IsLabel named n → IsLabelWord named (word p n)

data IsMetricWord : QueryValue → Type 0 where
  is_metric_word : {p : Place} {n : List ℕ} → IsMetric n → IsMetricWord (word p n)

data IsFunctionWord : QueryValue → Type 0 where
  is_function_word : {f : Func} {p : Place} {n : List ℕ} → IsMetric n → IsFunctionWord (function f p n)

data IsLasting : QueryValue → Type 0 where
  is_lasting : {p : Place} {d : ℕ} → IsSpan d → IsLasting (lasting p d)

data IsShift : QueryValue → Type 0 where
  is_a_shift : {p : Place} {d : ℕ} → IsOffset d → IsShift (lasting p d)

data IsOperand : QueryValue → Type 0 where
  is_operand : {b : Bool} {m : Option Matching} {p : Place} {t : Tree} → IsMatching m → IsReadable true t → IsOperand (operand b m p t)

data IsSided : QueryValue → Type 0 where
  many_left : IsSided (sided ManyToOne)
  many_right : IsSided (sided OneToMany)

data IsIncluded : QueryValue → Type 0 where
  is_included : {ns : List (List ℕ)} {p : Place} {t : Tree} → AllLabels ns → IsReadable true t → IsIncluded (included ns p t)

data IsGrouped : QueryValue → Type 0 where
  is_grouped : {card : Card} {ns : List (List ℕ)} {p : Place} {t : Tree} → IsSide card ns → IsReadable true t → IsGrouped (grouped card ns p t)

data AreNames : QueryValue → Type 0 where
  are_names : {ns : List (List ℕ)} → AllLabels ns → AreNames (names ns)

data AreLabels : QueryValue → Type 0 where
  are_labels : {ns : List (List ℕ)} {p : Place} → AllLabels ns → AreLabels (labels ns p)

data AreMatchers (named : Bool) : QueryValue → Type 0 where
  are_matchers : {ms : List MatchText} → AllMatchers named ms → AreMatchers named (matchers ms)

data IsBraces (named : Bool) : QueryValue → Type 0 where
  is_braces : {ms : List MatchText} {p : Place} → AllMatchers named ms → IsBraces named (braced ms p)

data IsBraced : QueryValue → Type 0 where
  no_braces : IsBraced bare
  some_braces : {ms : List MatchText} {p : Place} → AllMatchers true ms → IsBraced (braced ms p)

data AreSuffixes : QueryValue → Type 0 where
  are_suffixes : {ss : List Suffix} → AllSuffixes ss → AreSuffixes (suffixes ss)

data IsSelection : QueryValue → Type 0 where
  is_selection : {v : QueryValue} {ss : List Suffix} → IsBraced v → AllSuffixes ss → IsSelection (selection v ss)

data IsTail : QueryValue → Type 0 where
  is_called : {ts : Tree} {p : Place} {ss : List Suffix} → IsReadable false ts → AllSuffixes ss → IsTail (called ts p ss)
  is_selected : {v : QueryValue} {ss : List Suffix} → IsBraced v → AllSuffixes ss → IsTail (selection v ss)

data IsSpanned : QueryValue → Type 0 where
  is_ranged : {p : Place} {ss : List Suffix} → AllSuffixes ss → IsSpanned (ranged p ss)
  is_stepped : {step : Option ℕ} {p : Place} {ss : List Suffix} → IsStep step → AllSuffixes ss → IsSpanned (stepped step p ss)

data IsStepped : QueryValue → Type 0 where
  has_step : {step : Option ℕ} {p : Place} {ss : List Suffix} → IsStep step → AllSuffixes ss → IsStepped (stepped step p ss)

data AreArguments : QueryValue → Type 0 where
  are_arguments : {ts : Tree} → IsReadable false ts → AreArguments (arguments ts)

data AreParameters : QueryValue → Type 0 where
  are_parameters : {ts : Tree} → AreGiven ts → AreParameters (arguments ts)

data IsGroup : QueryValue → Type 0 where
  is_group : {g : Grouping} {p : Place} → AllLabels g.names → IsGroup (grouping g p)

data IsAggregation : QueryValue → Type 0 where
  is_aggregation : {g : Grouping} {ts : Tree} {p : Place} → AllLabels g.names → AreGiven ts → IsAggregation (aggregation g ts p)

data IsGivenClosed : QueryValue → Type 0 where
  is_given_closed : {ts : Tree} {p : Place} → AreGiven ts → IsGivenClosed (closed ts p)

-- What tokens stand for.
abbrev Stands : (QueryValue → Type 0) → (Seen → Option QueryValue) → Type 0
Stands P p = (t : Seen) → IsProper t → (v : QueryValue) → p t ≡ Some v → P v

from_if : (P : QueryValue → Type 0) (b : Bool) (v w : QueryValue) → (b ≡ true → P v) → (if b then Some v else None) ≡ Some w → P w
from_if P true v w h e = let same : v ≡ w = cc in subst P same (h refl)
from_if P false v w h e = absurd (cc)

from_map : {A : Type 0} (P : QueryValue → Type 0) (f : A → QueryValue) (o : Option A) (w : QueryValue) → ((a : A) → o ≡ Some a → P (f a)) → option_map f o ≡ Some w → P w
from_map P f (Some a) w h e = let same : f a ≡ w = cc in subst P same (h a refl)
from_map P f None w h e = absurd (cc)

sign_stands : (s : SignOf) → Stands IsAt (sign_at s)
sign_stands s (lexed k t) own v e = from_if IsAt (is_sign s k) (at (place_of t)) v (λ h. is_at) e

word_stands : (w : WordOf) → Stands IsAt (word_at w)
word_stands w (lexed k t) own v e = from_if IsAt (is_word w k) (at (place_of t)) v (λ h. is_at) e

operator_stands : (l : Level) → Stands IsOperation (operator_at l)
operator_stands l (lexed k t) own v e = from_map IsOperation operation (operator_of l k) v (λ a h. is_operation) e

matching_stands : Stands IsMatches matching_at
matching_stands (lexed k t) own v e = from_map IsMatches matches (matching_of k) v (λ a h. is_matches) e

grouping_stands : Stands IsGrouper grouping_at
grouping_stands (lexed k t) own v e = from_map IsGrouper grouper (grouping_of k) v (λ a h. is_grouper) e

minus_stands : Stands IsSigned minus_at
minus_stands (lexed k t) own v e = from_map IsSigned (λ b. signed b (place_of t)) (minus_of k) v (λ a h. is_signed) e

match_stands : Stands IsMatchSign match_at
match_stands (lexed k t) own v e = from_map IsMatchSign match_sign (match_of k) v (λ a h. is_match_sign) e

aggregate_stands : Stands IsAggregator aggregate_at
aggregate_stands (lexed k t) own v e = from_map IsAggregator (λ op. aggregator op (place_of t)) (aggregate_of k) v (λ a h. is_aggregator) e

text_stands : Stands IsQuoted text_at
text_stands (lexed k t) own v e = from_if IsQuoted (is_text k) (quoted (text_of t.kind)) v (λ h. is_quoted) e

side_is : (k : TokenClass) (card : Card) → side_of k ≡ Some card → IsSided (sided card)
side_is (Word GroupLeft) card e = let same : ManyToOne ≡ card = cc in subst (λ c. IsSided (sided c)) same many_left
side_is (Word GroupRight) card e = let same : OneToMany ≡ card = cc in subst (λ c. IsSided (sided c)) same many_right
side_is _ card e = absurd (cc)

side_stands : Stands IsSided side_at
side_stands (lexed k t) own v e = from_map IsSided sided (side_of k) v (λ a h. side_is k a h) e

-- names are words, functions, or other names
pub data IsNameKind : TokenClass → Type 0 where
  a_word : {w : WordOf} → IsNameKind (Word w)
  a_function : {f : Func} → IsNameKind (Function f)
  own_name : IsNameKind OwnName
  colon_name : IsNameKind WithColon
  plain_name : IsNameKind Plain

other_kind : (a b : Bool) → IsNameKind (if a then OwnName else (if b then WithColon else Plain))
other_kind true b = own_name
other_kind false true = colon_name
other_kind false false = plain_name

function_kind_is : (o : Option Func) (n : List ℕ) → IsNameKind (function_kind o n)
function_kind_is (Some f) n = a_function
function_kind_is None n = other_kind (bytes_eq n metric_label) (has_colon n)

word_kind_is : (o : Option WordOf) (n : List ℕ) → IsNameKind (word_kind o n)
word_kind_is (Some w) n = a_word
word_kind_is None n = function_kind_is (func_of n) n

pub name_kind_is : (n : List ℕ) → IsNameKind (name_kind n)
name_kind_is n = word_kind_is (word_of n) n

-- a test that only names pass
span_fails : (test : TokenClass → Bool) (b : Bool) → test Span ≡ false → test ZeroSpan ≡ false → test (if b then ZeroSpan else Span) ≡ true → ⊥
span_fails test true h k e = cc
span_fails test false h k e = cc

of_name : (test : TokenClass → Bool) (P : List ℕ → Type 0) → test Number ≡ false → test Text ≡ false → test Span ≡ false → test ZeroSpan ≡ false → ((s : SignOf) → test (Sign s) ≡ false) →
    ((n : List ℕ) → IsNameText false n → test (name_kind n) ≡ true → P n) → (t : TokenKind) → IsHeld t → test (kind_of t) ≡ true → P (text_of t)
of_name test P a b c d f g (NameToken n) h e = g n h e
of_name test P a b c d f g (NumberToken v) h e = absurd (cc)
of_name test P a b c d f g (DurationToken ms) h e = absurd (span_fails test (ms == 0) c d e)
of_name test P a b c d f g (TextToken t) h e = absurd (cc)
of_name test P a b c d f g (SignToken s) h e = absurd (let k = f s in cc)

sign_no_label : (named : Bool) (s : SignOf) → is_label named (Sign s) ≡ false
sign_no_label true s = refl
sign_no_label false s = refl

no_label : (named : Bool) → (is_label named Number ≡ false) × (is_label named Text ≡ false) × (is_label named Span ≡ false) × (is_label named ZeroSpan ≡ false)
no_label true = (refl, refl, refl, refl)
no_label false = (refl, refl, refl, refl)

label_stands : (named : Bool) → Stands (IsLabelWord named) (label_at named)
label_stands named (lexed k t) own v e =
    let n = no_label named in
    from_if (IsLabelWord named) (is_label named k) (word (place_of t) (text_of t.kind)) v
    (λ h. is_label_word (of_name (is_label named) (IsLabel named) n.0 n.1 n.2 n.3 (sign_no_label named) (λ n x y. record { name = x; is = y }) t.kind own.holds (ap (is_label named) (sym own.is) ∙ h))) e

metric_stands : Stands IsMetricWord metric_at
metric_stands (lexed k t) own v e =
    from_if IsMetricWord (is_metric k) (word (place_of t) (text_of t.kind)) v
    (λ h. is_metric_word (of_name is_metric IsMetric refl refl refl refl (λ s. refl) (λ n x y. metric_name x y) t.kind own.holds (ap is_metric (sym own.is) ∙ h))) e

kind_function : (k : TokenClass) (f : Func) → function_of k ≡ Some f → k ≡ Function f
kind_function (Function g) f e = let same : g ≡ f = cc in ap Function same
kind_function _ f e = absurd (cc)

abbrev is_function : TokenClass → Bool
is_function (Function f) = true
is_function _ = false

name_function : (k : TokenClass) → is_function k ≡ true → (f : Func) × (k ≡ Function f)
name_function (Function g) e = (g, refl)
name_function _ e = absurd (cc)

function_stands : Stands IsFunctionWord function_at
function_stands (lexed k t) own v e =
    from_map IsFunctionWord (λ f. function f (place_of t) (text_of t.kind)) (function_of k) v
    (λ f h. is_function_word (of_name is_function IsMetric refl refl refl refl (λ s. refl) (λ n x y. let g = name_function (name_kind n) y in function_name g.0 x g.1) t.kind own.holds
    (ap is_function (sym own.is ∙ kind_function k f h)))) e

-- durations
no_name_span : (k : TokenClass) → IsNameKind k → is_span k ≡ false
no_name_span _ a_word = refl
no_name_span _ a_function = refl
no_name_span _ own_name = refl
no_name_span _ colon_name = refl
no_name_span _ plain_name = refl

no_name_shift : (k : TokenClass) → IsNameKind k → is_shift k ≡ false
no_name_shift _ a_word = refl
no_name_shift _ a_function = refl
no_name_shift _ own_name = refl
no_name_shift _ colon_name = refl
no_name_shift _ plain_name = refl

span_held : (t : TokenKind) → IsHeld t → is_span (kind_of t) ≡ true → IsSpan (span_of t)
span_held (NameToken n) h e = absurd (let k = no_name_span (name_kind n) (name_kind_is n) in cc)
span_held (DurationToken ms) h e = record { some = e; fits = h }
span_held (NumberToken v) h e = absurd (cc)
span_held (TextToken t) h e = absurd (cc)
span_held (SignToken s) h e = absurd (cc)

shift_held : (t : TokenKind) → IsHeld t → is_shift (kind_of t) ≡ true → IsOffset (span_of t)
shift_held (NameToken n) h e = absurd (let k = no_name_shift (name_kind n) (name_kind_is n) in cc)
shift_held (DurationToken ms) h e = h
shift_held (NumberToken v) h e = absurd (cc)
shift_held (TextToken t) h e = absurd (cc)
shift_held (SignToken s) h e = absurd (cc)

span_stands : Stands IsLasting span_at
span_stands (lexed k t) own v e = from_if IsLasting (is_span k) (lasting (place_of t) (span_of t.kind)) v (λ h. is_lasting (span_held t.kind own.holds (ap is_span (sym own.is) ∙ h))) e

shift_stands : Stands IsShift shift_at
shift_stands (lexed k t) own v e = from_if IsShift (is_shift k) (lasting (place_of t) (span_of t.kind)) v (λ h. is_a_shift (shift_held t.kind own.holds (ap is_shift (sym own.is) ∙ h))) e

-- numbers and strings
abbrev is_number : TokenClass → Bool
is_number Number = true
is_number _ = false

no_name_number : (k : TokenClass) → IsNameKind k → is_number k ≡ false
no_name_number _ a_word = refl
no_name_number _ a_function = refl
no_name_number _ own_name = refl
no_name_number _ colon_name = refl
no_name_number _ plain_name = refl

span_no_number : (b : Bool) → is_number (if b then ZeroSpan else Span) ≡ true → ⊥
span_no_number true e = cc
span_no_number false e = cc

digits_unsigned : (v : Num) → IsDigits v → IsUnsigned v
digits_unsigned v h = subst IsUnsigned (sym h.is) h.fits

number_held : (t : TokenKind) → IsHeld t → is_number (kind_of t) ≡ true → IsUnsigned (number_of t)
number_held (NameToken n) h e = absurd (let k = no_name_number (name_kind n) (name_kind_is n) in cc)
number_held (NumberToken v) h e = digits_unsigned v h
number_held (DurationToken ms) h e = absurd (span_no_number (ms == 0) e)
number_held (TextToken t) h e = absurd (cc)
number_held (SignToken s) h e = absurd (cc)

literal_is : (k : TokenClass) (t : TokenKind) (p : Place) (u : Tree) → IsOwn k t → literal_of k t p ≡ Some u → IsReadable true u
literal_is Number t p u own e = let same : number p (number_of t) ≡ u = cc in subst (IsReadable true) same (a_number (number_held t own.holds (ap is_number (sym own.is))))
literal_is Text t p u own e = let same : text p (text_of t) ≡ u = cc in subst (IsReadable true) same a_text
literal_is (Word Inf) t p u own e = let same : number p PosInf ≡ u = cc in subst (IsReadable true) same (a_number tt)
literal_is (Word NaN) t p u own e = let same : number p NaNValue ≡ u = cc in subst (IsReadable true) same (a_number tt)
literal_is _ t p u own e = absurd (cc)

literal_stands : Stands IsPart literal_at
literal_stands (lexed k t) own v e = from_map IsPart (part (place_of t)) (literal_of k t.kind (place_of t)) v (λ u h. is_part (literal_is k t.kind (place_of t) u own h)) e

-- suffixes keep a tree readable
range_readable : (p : Place) (d : ℕ) {t : Tree} → IsReadable true t → IsSpan d → IsReadable true (range_made p d t)
range_readable p d (a_select h) w = a_range h w
range_readable p d (a_number h) w = a_number h
range_readable p d a_text w = a_text
range_readable p d (a_range h x) w = a_range h x
range_readable p d (a_sub x s o h) w = a_sub x s o h
range_readable p d (a_neg h) w = a_neg h
range_readable p d (a_binary m h k) w = a_binary m h k
range_readable p d (a_call h) w = a_call h
range_readable p d (an_aggregate n h) w = an_aggregate n h
range_readable p d (a_parameter n h k) w = a_parameter n h k

offset_readable : (p : Place) (d : ℕ) {t : Tree} → IsReadable true t → IsOffset d → IsReadable true (offset_set p d t)
offset_readable p d (a_select h) w = a_select (record { selected = h.selected; offset = w })
offset_readable p d (a_number h) w = a_number h
offset_readable p d a_text w = a_text
offset_readable p d (a_range h x) w = a_range (record { selected = h.selected; offset = w }) x
offset_readable p d (a_sub x s o h) w = a_sub x s w h
offset_readable p d (a_neg h) w = a_neg h
offset_readable p d (a_binary m h k) w = a_binary m h k
offset_readable p d (a_call h) w = a_call h
offset_readable p d (an_aggregate n h) w = an_aggregate n h
offset_readable p d (a_parameter n h k) w = a_parameter n h k

zero_offset : IsOffset 0
zero_offset = lit≤ tt

applied_readable : (p : Place) (t : Tree) (ss : List Suffix) → IsReadable true t → AllSuffixes ss → IsPart (applied_to p t ss)
applied_readable p t [] h k = is_part h
applied_readable p t (in_range d q ∷ ss) h k = applied_readable (through p q) (range_made (through p q) d t) ss (range_readable (through p q) d h k.0) k.1
applied_readable p t (in_subquery d step q ∷ ss) h k = applied_readable (through p q) (sub (through p q) t d step 0) ss (a_sub k.0.0 k.0.1 zero_offset h) k.1
applied_readable p t (by_offset d q ∷ ss) h k = applied_readable (through p q) (offset_set (through p q) d t) ss (offset_readable (through p q) d h k.0) k.1

-- What holds of the values of rules.
abbrev Holds : Rule → QueryValue → Type 0
Holds (Binary l p) v = IsPart v
Holds (Modified l) v = IsOperand v
Holds (Matched l) v = IsOperand v
Holds (Grouped l) v = IsGrouped v
Holds (Included l) v = IsIncluded v
Holds (Unary p) v = IsPart v
Holds (Postfix p) v = IsPart v
Holds Operand v = IsPart v
Holds Labels v = AreNames v
Holds MoreLabels v = AreNames v
Holds (Matchers named) v = AreMatchers named v
Holds (MoreMatchers named) v = AreMatchers named v
Holds Braced v = IsBraced v
Holds Selection v = IsSelection v
Holds Tail v = IsTail v
Holds Arguments v = AreArguments v
Holds Aggregation v = IsAggregation v
Holds Parameters v = AreParameters v
Holds (After b) v = AreSuffixes v
Holds InSelector v = AreSuffixes v
Holds SelectorSpan v = IsSpanned v
Holds InOther v = AreSuffixes v
Holds Step v = IsStepped v
Holds Closing v = IsStepped v
Holds Shift v = AreSuffixes v

abbrev M : F → QueryValue → Type 0
M f v = Meets IsProper Holds f v

ruled : {n : Rule} {v : QueryValue} → M (rule n) v → Holds n v
ruled (by_rule h) = h

stood : {P : QueryValue → Type 0} {p : Seen → Option QueryValue} {v : QueryValue} → Stands P p → M (token p) v → P v
stood s (by_token {t = t} own e) = s t own _ e

-- labels
labels_of : (v : QueryValue) {w x : QueryValue} → AreNames w → IsAt x → AreLabels (second_of v (names_closed w x))
labels_of v (are_names h) is_at = are_labels h

label_list_is : {v : QueryValue} → M label_list v → AreLabels v
label_list_is (by_pair {v = v} a (by_pair (by_rule h) b)) = labels_of v h (stood (sign_stands RightParen) b)

-- operations
data IsTurn : QueryValue → Type 0 where
  is_turn : {o : BinOp} {b : Bool} {m : Option Matching} {p : Place} {t : Tree} → IsMatching m → IsReadable true t → IsTurn (turn o b m p t)

turned_is : {v w : QueryValue} → IsOperation v → IsOperand w → IsTurn (turned v w)
turned_is is_operation (is_operand m k) = is_turn m k

joins : {v w : QueryValue} → IsPart v → IsTurn w → IsPart (joined v w)
joins (is_part h) (is_turn m k) = is_part (a_binary m h k)

-- the parts of a sequence
record Sequence (c : QueryValue → QueryValue → QueryValue) (f g : F) (v : QueryValue) : Type 0 where
  left : QueryValue
  right : QueryValue
  first : M f left
  second : M g right
  is : c left right ≡ v

sequence : {c : QueryValue → QueryValue → QueryValue} {f g : F} {v : QueryValue} → M (pair c f g) v → Sequence c f g v
sequence (by_pair {v = v} {w = w} a b) = record { left = v; right = w; first = a; second = b; is = refl }

right_side_is : (l : Level) {v : QueryValue} → M (right_side l) v → IsTurn v
right_side_is l m = let s = sequence m in subst IsTurn s.is (turned_is (stood (operator_stands l) s.first) (ruled s.second))

turns_by : (Q : QueryValue → Type 0) {g : F} {v x : QueryValue} → ((w : QueryValue) → M g w → Q w) → ((v w : QueryValue) → IsPart v → Q w → IsPart (joined v w)) → IsPart v → M (turns joined v g) x → IsPart x
turns_by Q f j h by_stop = h
turns_by Q f j h (by_turn a d) = turns_by Q f j (j _ _ h (f _ a)) d

turns_are : (l : Level) {v x : QueryValue} → IsPart v → M (turns joined v (right_side l)) x → IsPart x
turns_are l h m = turns_by IsTurn (λ w a. right_side_is l a) (λ v w a b. joins a b) h m

with_bool_is : (v : QueryValue) {w : QueryValue} → IsOperand w → IsOperand (with_bool v w)
with_bool_is v (is_operand m h) = is_operand m h

unmatched_is : (v : QueryValue) {w : QueryValue} → IsPart w → IsOperand (unmatched v w)
unmatched_is v (is_part h) = is_operand tt h

matched_is : {u v w : QueryValue} → IsMatches u → AreLabels v → IsGrouped w → IsOperand (matched u (named_by v w))
matched_is is_matches (are_labels n) (is_grouped s h) = is_operand (record { names = n; side = s }) h

ungrouped_is : (v : QueryValue) {w : QueryValue} → IsPart w → IsGrouped (ungrouped v w)
ungrouped_is v (is_part h) = is_grouped refl h

grouped_is : {v w : QueryValue} → IsSided v → IsIncluded w → IsGrouped (grouped_by v w)
grouped_is many_left (is_included n h) = is_grouped n h
grouped_is many_right (is_included n h) = is_grouped n h

including_is : {v w : QueryValue} → AreLabels v → IsPart w → IsIncluded (including v w)
including_is (are_labels n) (is_part h) = is_included n h

including_none_is : (v : QueryValue) {w : QueryValue} → IsPart w → IsIncluded (including_none v w)
including_none_is v (is_part h) = is_included tt h

signed_is : {v w : QueryValue} → IsSigned v → IsPart w → IsPart (signed_by v w)
signed_is (is_signed {b = true}) (is_part h) = is_part (a_neg h)
signed_is (is_signed {b = false}) (is_part h) = is_part h

-- parentheses, and what follows a primary
enclosed_is : {u v w : QueryValue} → IsAt u → IsPart v → IsAt w → IsPart (opened_by u (closed_by v w))
enclosed_is is_at (is_part h) is_at = is_part h

applied_is : {v w : QueryValue} → IsPart v → AreSuffixes w → IsPart (applied v w)
applied_is (is_part {p = p} {t = t} h) (are_suffixes {ss = ss} k) = applied_readable p t ss h k

-- names
name_first_is : {v w : QueryValue} → IsLabelWord false v → AreNames w → AreNames (name_first v w)
name_first_is (is_label_word l) (are_names n) = are_names (l, n)

-- matchers
match_first_is : {named : Bool} {u v w x : QueryValue} → IsLabelWord named u → IsMatchSign v → IsQuoted w → AreMatchers named x → AreMatchers named (match_first u (match_before (match_of_text v w) x))
match_first_is (is_label_word l) is_match_sign is_quoted (are_matchers m) = are_matchers (l, m)

braces_are : {named : Bool} {u v w : QueryValue} → IsAt u → AreMatchers named v → IsAt w → IsBraces named (matchers_opened u (matchers_closed v w))
braces_are is_at (are_matchers m) is_at = is_braces m

braced_is : {v : QueryValue} → IsBraces true v → IsBraced v
braced_is (is_braces m) = some_braces m

matcher_list_is : {named : Bool} {v : QueryValue} → M (matcher_list named) v → IsBraces named v
matcher_list_is (by_pair a (by_pair (by_rule h) b)) = braces_are (stood (sign_stands LeftBrace) a) h (stood (sign_stands RightBrace) b)

-- selectors
selecting_is : {v w : QueryValue} → IsBraced v → AreSuffixes w → IsSelection (selecting v w)
selecting_is b (are_suffixes k) = is_selection b k

named_by_word : (p : Place) (n : List ℕ) {v : QueryValue} (ss : List Suffix) → IsMetric n → IsBraced v → AllSuffixes ss → IsPart (named (word p n) (selection v ss))
named_by_word p n ss m no_braces k = applied_readable p (select p (selector_of (Some n) [])) ss (a_select (record { selected = (m, tt); offset = zero_offset })) k
named_by_word p n ss m (some_braces {ms = ms} {p = q} h) k =
    applied_readable (through p q) (select (through p q) (selector_of (Some n) ms)) ss (a_select (record { selected = (m, h); offset = zero_offset })) k

named_is : {v w : QueryValue} → IsMetricWord v → IsSelection w → IsPart (named v w)
named_is (is_metric_word {p = p} {n = n} m) (is_selection {ss = ss} b k) = named_by_word p n ss m b k

unnamed_is : {v w : QueryValue} → IsBraces false v → AreSuffixes w → IsPart (unnamed v w)
unnamed_is (is_braces {ms = ms} {p = q} h) (are_suffixes {ss = ss} k) = applied_readable q (select q (selector_of None ms)) ss (a_select (record { selected = h; offset = zero_offset })) k

called_is : {v w : QueryValue} → IsFunctionWord v → IsTail w → IsPart (function_called v w)
called_is (is_function_word {f = f} {p = p} {n = n} m) (is_called {ts = ts} {p = q} {ss = ss} h k) = applied_readable (through p q) (call (through p q) f ts) ss (a_call h) k
called_is (is_function_word {f = f} {p = p} {n = n} m) (is_selected {ss = ss} b k) = named_by_word p n ss m b k

tail_selected : {v : QueryValue} → IsSelection v → IsTail v
tail_selected (is_selection b k) = is_selected b k

-- arguments
argument_is : {v w : QueryValue} → AreArguments v → IsPart w → AreArguments (argument v w)
argument_is (are_arguments h) (is_part k) = are_arguments (more_args h k)

more_arguments : {v x : QueryValue} → AreArguments v → M (turns argument v next_argument) x → AreArguments x
more_arguments h by_stop = h
more_arguments h (by_turn (by_pair a (by_rule b)) d) = more_arguments (argument_is h b) d

tail_called : {v w x : QueryValue} → AreArguments v → IsAt w → AreSuffixes x → IsTail (arguments_followed (arguments_closed v w) x)
tail_called (are_arguments h) is_at (are_suffixes k) = is_called h k

-- aggregations
group_is : {v w : QueryValue} → IsGrouper v → AreLabels w → IsGroup (grouping_made v w)
group_is is_grouper (are_labels n) = is_group n

group_form : {v : QueryValue} → M group v → IsGroup v
group_form (by_pair a b) = group_is (stood grouping_stands a) (label_list_is b)

given_closed : {v w : QueryValue} → AreParameters v → IsAt w → IsGivenClosed (arguments_closed v w)
given_closed (are_parameters h) is_at = is_given_closed h

parameters_form : {v : QueryValue} → M parameters v → IsGivenClosed v
parameters_form (by_pair a (by_pair (by_rule h) b)) = given_closed h (stood (sign_stands RightParen) b)

before_is : {v w : QueryValue} → IsGroup v → IsGivenClosed w → IsAggregation (grouped_before v w)
before_is (is_group n) (is_given_closed h) = is_aggregation n h

after_is : {v w : QueryValue} → IsGivenClosed v → IsGroup w → IsAggregation (grouped_after v w)
after_is (is_given_closed h) (is_group n) = is_aggregation n h

after_none : {v : QueryValue} → IsGivenClosed v → IsAggregation (grouped_after v bare)
after_none (is_given_closed h) = is_aggregation tt h

aggregate_given : {p : Place} {o : AggOp} {g : Grouping} {ts : Tree} → AllLabels g.names → AreGiven ts → IsReadable true (aggregate p o g ts)
aggregate_given n (one_given h) = an_aggregate n h
aggregate_given n (two_given h k) = a_parameter n h k

aggregated_is : {v w : QueryValue} → IsAggregator v → IsAggregation w → IsPart (aggregation_made v w)
aggregated_is is_aggregator (is_aggregation n h) = is_part (aggregate_given n h)

two_are : (v : QueryValue) {u w : QueryValue} → IsPart u → IsPart w → AreParameters (parameter u (second_of v w))
two_are v (is_part h) (is_part k) = are_parameters (two_given h k)

one_is : {u : QueryValue} → IsPart u → AreParameters (parameter u bare)
one_is (is_part h) = are_parameters (one_given h)

-- brackets and offsets
bracketed_is : {v w : QueryValue} → IsLasting v → IsSpanned w → AreSuffixes (bracketed v w)
bracketed_is (is_lasting d) (is_ranged k) = are_suffixes (d, k)
bracketed_is (is_lasting d) (is_stepped s k) = are_suffixes ((d, s), k)

stepped_spanned : {v : QueryValue} → IsStepped v → IsSpanned v
stepped_spanned (has_step s k) = is_stepped s k

ranged_is : {v w : QueryValue} → IsAt v → AreSuffixes w → IsSpanned (range_closed v w)
ranged_is is_at (are_suffixes k) = is_ranged k

step_closed_is : {v w : QueryValue} → IsAt v → AreSuffixes w → IsStepped (step_closed v w)
step_closed_is is_at (are_suffixes k) = has_step tt k

with_step_is : {v w : QueryValue} → IsLasting v → IsStepped w → IsStepped (with_step v w)
with_step_is (is_lasting d) (has_step s k) = has_step d k

shifted_is : {v w : QueryValue} → IsShift v → AreSuffixes w → AreSuffixes (shifted v w)
shifted_is (is_a_shift d) (are_suffixes k) = are_suffixes (d, k)

tighter_is : (l : Level) (p : Bool) {v : QueryValue} → Holds (tighter l p) v → IsPart v
tighter_is Or p h = h
tighter_is And p h = h
tighter_is Comparison p h = h
tighter_is Sum p h = h
tighter_is Product p h = h

rules_hold : (n : Rule) {v : QueryValue} → M (production n) v → Holds n v
rules_hold (Binary l p) (by_fold (by_rule h) d) = turns_are l (tighter_is l p h) d
rules_hold (Modified l) (by_left (by_pair {v = v} a (by_rule h))) = with_bool_is v h
rules_hold (Modified l) (by_right (by_rule h)) = h
rules_hold (Matched l) (by_left (by_pair a (by_pair b (by_rule h)))) = matched_is (stood matching_stands a) (label_list_is b) h
rules_hold (Matched l) (by_right (by_pair {v = v} a (by_rule h))) = unmatched_is v (tighter_is l true h)
rules_hold (Grouped l) (by_left (by_pair a (by_rule h))) = grouped_is (stood side_stands a) h
rules_hold (Grouped l) (by_right (by_pair {v = v} a (by_rule h))) = ungrouped_is v (tighter_is l true h)
rules_hold (Included l) (by_left (by_pair a (by_rule h))) = including_is (label_list_is a) (tighter_is l true h)
rules_hold (Included l) (by_right (by_pair {v = v} a (by_rule h))) = including_none_is v (tighter_is l false h)
rules_hold (Unary p) (by_left (by_pair a (by_rule h))) = signed_is (stood minus_stands a) h
rules_hold (Unary p) (by_right (by_rule h)) = h
rules_hold (Postfix true) (by_left (by_pair (by_pair a (by_pair (by_rule h) b)) (by_rule k))) = applied_is (enclosed_is (stood (sign_stands LeftParen) a) h (stood (sign_stands RightParen) b)) k
rules_hold (Postfix true) (by_right (by_rule h)) = h
rules_hold (Postfix false) (by_rule h) = h
rules_hold Operand (by_left (by_pair a (by_rule k))) = applied_is (stood literal_stands a) k
rules_hold Operand (by_right (by_left (by_pair a (by_rule k)))) = named_is (stood metric_stands a) k
rules_hold Operand (by_right (by_right (by_left (by_pair a (by_rule k))))) = called_is (stood function_stands a) k
rules_hold Operand (by_right (by_right (by_right (by_left (by_pair (by_pair a (by_rule h)) (by_rule k)))))) = applied_is (aggregated_is (stood aggregate_stands a) h) k
rules_hold Operand (by_right (by_right (by_right (by_right (by_pair a (by_rule k)))))) = unnamed_is (matcher_list_is a) k
rules_hold Labels (by_left (by_pair a (by_rule h))) = name_first_is (stood (label_stands false) a) h
rules_hold Labels (by_right by_nothing) = are_names tt
rules_hold MoreLabels (by_left (by_pair a (by_rule h))) = h
rules_hold MoreLabels (by_right by_nothing) = are_names tt
rules_hold (Matchers named) (by_left (by_pair a (by_pair (by_pair b c) (by_rule h)))) = match_first_is (stood (label_stands named) a) (stood match_stands b) (stood text_stands c) h
rules_hold (Matchers named) (by_right by_nothing) = are_matchers tt
rules_hold (MoreMatchers named) (by_left (by_pair a (by_rule h))) = h
rules_hold (MoreMatchers named) (by_right by_nothing) = are_matchers tt
rules_hold Braced (by_left a) = braced_is (matcher_list_is a)
rules_hold Braced (by_right by_nothing) = no_braces
rules_hold Selection (by_pair (by_rule h) (by_rule k)) = selecting_is h k
rules_hold Tail (by_left (by_pair a (by_pair (by_pair (by_rule h) b) (by_rule k)))) = tail_called h (stood (sign_stands RightParen) b) k
rules_hold Tail (by_right (by_rule h)) = tail_selected h
rules_hold Arguments (by_left (by_fold (by_pair by_nothing (by_rule h)) d)) = more_arguments (argument_is (are_arguments no_args) h) d
rules_hold Arguments (by_right by_nothing) = are_arguments no_args
rules_hold Aggregation (by_left (by_pair a b)) = before_is (group_form a) (parameters_form b)
rules_hold Aggregation (by_right (by_pair a (by_left b))) = after_is (parameters_form a) (group_form b)
rules_hold Aggregation (by_right (by_pair a (by_right by_nothing))) = after_none (parameters_form a)
rules_hold Parameters (by_pair (by_rule h) (by_left (by_pair {v = v} a (by_rule k)))) = two_are v h k
rules_hold Parameters (by_pair (by_rule h) (by_right by_nothing)) = one_is h
rules_hold (After Selectors) (by_left (by_pair a (by_rule h))) = h
rules_hold (After Selectors) (by_right (by_left (by_pair a (by_rule h)))) = h
rules_hold (After Selectors) (by_right (by_right by_nothing)) = are_suffixes tt
rules_hold (After Ranges) (by_left (by_pair a (by_rule h))) = h
rules_hold (After Ranges) (by_right (by_rule h)) = h
rules_hold (After Others) (by_left (by_pair a (by_rule h))) = h
rules_hold (After Others) (by_right by_nothing) = are_suffixes tt
rules_hold InSelector (by_pair a (by_rule h)) = bracketed_is (stood span_stands a) h
rules_hold SelectorSpan (by_left (by_pair a (by_rule h))) = ranged_is (stood (sign_stands RightBracket) a) h
rules_hold SelectorSpan (by_right (by_pair a (by_rule h))) = stepped_spanned h
rules_hold InOther (by_pair a (by_pair b (by_rule h))) = bracketed_is (stood span_stands a) (stepped_spanned h)
rules_hold Step (by_left (by_pair a (by_rule h))) = with_step_is (stood span_stands a) h
rules_hold Step (by_right (by_rule h)) = h
rules_hold Closing (by_pair a (by_rule h)) = step_closed_is (stood (sign_stands RightBracket) a) h
rules_hold Shift (by_pair a (by_rule h)) = shifted_is (stood shift_stands a) h

part_tree : {p : Place} {t : Tree} → IsPart (part p t) → IsReadable true t
part_tree (is_part h) = h

pub derived_readable : (bytes : List ℕ) (tokens : List Token) (t : Tree) → HasTokens bytes tokens → Derives (seen_tokens tokens) t → IsReadable true t
derived_readable bytes tokens t h d = part_tree (ruled (by_rules production IsProper Holds (λ n v m. rules_hold n m) d.1 (tokens_are_proper bytes tokens h)))
