-- What the split grammar reads is read by the plain one.
use Rattle.std.proofs.Common.{◌≡◌, ℕ, Option, Some, None, Bool, true, false, List, [], ◌∷◌, ◌++◌, refl, ap, sym, subst, append_assoc}
use Rattle.std.specs.Prelude.{◌||◌, option_map, is_some, if◌then◌else◌}
use Rattle.std.proofs.lemmas.List.{append-nil}
use Rattle.pr_forms.specs.Form.{token, nothing, pair, either, turns, rule, Reads, is_token, is_nothing, is_pair, is_left, is_right, is_stop, is_turn, is_fold, is_rule}
use Rattle.pr_ast.specs.declared.lex.token.Sign.{Sign}
use Rattle.pr_ast.specs.declared.lex.token.Sign.TheVariants.{LeftBrace, RightBrace, LeftParen, RightParen, LeftBracket, RightBracket, Comma, Colon}
use Rattle.pr_ast.specs.declared.lex.words.Word.{Word}
use Rattle.pr_ast.specs.declared.lex.words.Word.TheVariants.{Bool as BoolWord, Offset}
use Rattle.pr_labels.specs.declared.grouping.Grouping.{Grouping}
use Rattle.pr_labels.specs.declared.matching.Matching.{Matching}
use Rattle.pr_labels.specs.declared.matching.Card.{Card}
use Rattle.pr_labels.specs.declared.matching.Card.TheVariants.{OneToOne}
use Rattle.pr_ast.specs.declared.place.Place.{Place}
use Rattle.pr_ast.specs.declared.selector.MatchText.{MatchText}
use Rattle.pr_ast.specs.declared.names.Func.{Func}
use Rattle.pr_ast.specs.declared.names.BinOp.{BinOp}
use Rattle.pr_ast.specs.Tree.{Tree, select, sub, call, aggregate, none, more}
use Rattle.pr_parse.specs.declared.grammar.kind.TokenClass.{TokenClass}
use Rattle.pr_parse.specs.declared.grammar.kind.TokenClass.TheVariants.{Function}
use Rattle.pr_parse.specs.declared.grammar.kind.Level.{Level}
use Rattle.pr_parse.specs.declared.grammar.kind.Level.TheVariants as level
use Rattle.pr_parse.specs.declared.grammar.kind.Before.TheVariants.{Selector as Selectors, Range as Ranges, Other as Others}
use Rattle.pr_parse.specs.Seen.{Seen, lexed, place_of}
use Rattle.pr_parse.specs.Grammar as g
use Rattle.pr_parse.specs.Grammar.{QueryValue, Rule, F, Suffix, in_range, in_subquery, by_offset, part, at, word, lasting, quoted, operation, operand, turn, matches, sided, included, grouped, signed, names, labels, match_sign, match_text, matchers, braced, bare, suffixes, ranged, stepped, selection, function, arguments, closed, called, aggregator, grouper, grouping, aggregation, production, expression, tighter, sign_at, word_at, operator_at, operator_of, matching_at, matching_of, grouping_at, grouping_of, minus_at, minus_of, side_at, side_of, match_at, match_of, aggregate_at, aggregate_of, function_at, function_of, label_at, is_label, metric_at, is_metric, literal_at, literal_of, text_at, is_text, span_at, is_span, shift_at, is_shift, span_of, text_of, is_sign, is_word, through, applied_to, selector_of, joined, right_side, next_argument, argument, some_arguments, label_list, matcher_list, matcher, group, parameters, applied, aggregation_made}
use Rattle.pr_parse.proofs.TokenValues.{IsAt, is_at, IsOperation, is_operation, IsSigned, is_signed, IsMatches, is_matches, IsGrouper, is_grouper, IsAggregator, is_aggregator, IsQuoted, is_quoted, IsMatchSign, is_match_sign}
use Rattle.laws_language.specs.private.Plain.{Expr, Unary, Mods, BareMods, Labels, Postfix, Selector, Primary, Group, Braces, M, Meaning, given, absent, side, keyed, mods, PF, tok, sg, wd, lift, optional, second, side_named, names_listed, matched_by, one_more_name, one_more_matcher, name_at, rule_of, below, right_sides, operations, names_part, matchers_part, no_suffixes, range_part, offset_part, closing_part, subquery_part, after_selector, arguments_part, parameters_part, plain}
use Rattle.laws_language.proofs.ByLists.{Holds, by_token, by_nothing, by_pair, by_left, by_right, by_stop, by_turn, by_fold, by_rule, by_lists}

-- readings of the plain grammar
abbrev RP : PF → List Seen → Meaning → List Seen → Type 0
RP f ts m rest = Reads plain f ts m rest

abbrev RV : PF → List Seen → QueryValue → List Seen → Type 0
RV f ts v rest = Reads plain f ts (given v) rest

-- What the values of rules are, with the readings of the plain grammar for them.
data IsPart (f : PF) : List Seen → QueryValue → List Seen → Type 0 where
  is_part : {ts rest : List Seen} {p : Place} {t : Tree} → RV f ts (part p t) rest → IsPart f ts (part p t) rest

-- modifiers with a right side: with labels at their end or none, and with a bare word
data IsModified (l : Level) : List Seen → QueryValue → List Seen → Type 0 where
  full : {ts mid rest : List Seen} {b : Bool} {m : Option Matching} {p : Place} {t : Tree} → RP (rule Mods) ts (mods b m) mid → RV (rule (below l true)) mid (part p t) rest → IsModified l ts (operand b m p t) rest
  bared : {ts mid rest : List Seen} {b : Bool} {m : Option Matching} {p : Place} {t : Tree} → RP (rule BareMods) ts (mods b m) mid → RV (rule (below l false)) mid (part p t) rest → IsModified l ts (operand b m p t) rest

abbrev keyed_full : PF
keyed_full = pair matched_by (tok matching_at) (pair names_listed (rule Labels) (optional (pair side_named (tok side_at) (rule Labels))))

abbrev keyed_bare : PF
keyed_bare = pair matched_by (tok matching_at) (pair names_listed (rule Labels) (tok side_at))

data IsMatched (l : Level) : List Seen → QueryValue → List Seen → Type 0 where
  not_matched : {ts rest : List Seen} {p : Place} {t : Tree} → RV (rule (below l true)) ts (part p t) rest → IsMatched l ts (operand false None p t) rest
  matched_full : {ts mid rest : List Seen} {m : Matching} {p : Place} {t : Tree} → RP keyed_full ts (keyed m) mid → RV (rule (below l true)) mid (part p t) rest → IsMatched l ts (operand false (Some m) p t) rest
  matched_bare : {ts mid rest : List Seen} {m : Matching} {p : Place} {t : Tree} → RP keyed_bare ts (keyed m) mid → RV (rule (below l false)) mid (part p t) rest → IsMatched l ts (operand false (Some m) p t) rest

data IsGrouped (l : Level) : List Seen → QueryValue → List Seen → Type 0 where
  not_grouped : {ts rest : List Seen} {p : Place} {t : Tree} → RV (rule (below l true)) ts (part p t) rest → IsGrouped l ts (grouped OneToOne [] p t) rest
  grouped_full : {ts mid rest : List Seen} {card : Card} {ns : List (List ℕ)} {p : Place} {t : Tree} → RP (pair side_named (tok side_at) (rule Labels)) ts (side card ns) mid → RV (rule (below l true)) mid (part p t) rest → IsGrouped l ts (grouped card ns p t) rest
  grouped_bare : {ts mid rest : List Seen} {card : Card} {p : Place} {t : Tree} → RV (tok side_at) ts (sided card) mid → RV (rule (below l false)) mid (part p t) rest → IsGrouped l ts (grouped card [] p t) rest

data IsIncluded (l : Level) : List Seen → QueryValue → List Seen → Type 0 where
  included_full : {ts mid rest : List Seen} {ns : List (List ℕ)} {q p : Place} {t : Tree} → RV (rule Labels) ts (labels ns q) mid → RV (rule (below l true)) mid (part p t) rest → IsIncluded l ts (included ns p t) rest
  included_none : {ts rest : List Seen} {p : Place} {t : Tree} → RV (rule (below l false)) ts (part p t) rest → IsIncluded l ts (included [] p t) rest

-- names after a name: commas with names, and maybe a last comma
abbrev pub next_name : PF
next_name = pair second (sg Comma) (tok (label_at false))

record MoreNames (ns : List (List ℕ)) (ts rest : List Seen) (ms : List (List ℕ)) : Type 0 where
  mid : List Seen
  last : Meaning
  turned : RP (turns one_more_name (given (names ms)) next_name) ts (given (names (ms ++ ns))) mid
  comma : RP (optional (sg Comma)) mid last rest

data IsMoreNames : List Seen → QueryValue → List Seen → Type 0 where
  are_more : {ts rest : List Seen} {ns : List (List ℕ)} → ((ms : List (List ℕ)) → MoreNames ns ts rest ms) → IsMoreNames ts (names ns) rest

data IsNames : List Seen → QueryValue → List Seen → Type 0 where
  no_names : {ts : List Seen} → IsNames ts (names []) ts
  some_names : {ts mid rest : List Seen} {p : Place} {n : List ℕ} {ns : List (List ℕ)} → RV (tok (label_at false)) ts (word p n) mid → ((ms : List (List ℕ)) → MoreNames ns mid rest ms) → IsNames ts (names (n ∷ ns)) rest

-- the same of matchers
abbrev pub next_matcher : Bool → PF
next_matcher named = pair second (sg Comma) (rule (M named))

record MoreMatchers (named : Bool) (ns : List MatchText) (ts rest : List Seen) (ms : List MatchText) : Type 0 where
  mid : List Seen
  last : Meaning
  turned : RP (turns one_more_matcher (given (matchers ms)) (next_matcher named)) ts (given (matchers (ms ++ ns))) mid
  comma : RP (optional (sg Comma)) mid last rest

data IsMoreMatchers (named : Bool) : List Seen → QueryValue → List Seen → Type 0 where
  are_more_matchers : {ts rest : List Seen} {ns : List MatchText} → ((ms : List MatchText) → MoreMatchers named ns ts rest ms) → IsMoreMatchers named ts (matchers ns) rest

data IsMatchers (named : Bool) : List Seen → QueryValue → List Seen → Type 0 where
  no_matchers : {ts : List Seen} → IsMatchers named ts (matchers []) ts
  some_matchers : {ts mid rest : List Seen} {m : MatchText} {ns : List MatchText} → RV (rule (M named)) ts (matchers (m ∷ [])) mid → ((ms : List MatchText) → MoreMatchers named ns mid rest ms) → IsMatchers named ts (matchers (m ∷ ns)) rest

-- what follows a primary: subqueries; an offset and subqueries; a range, an offset and subqueries
abbrev Tail : List Seen → List Suffix → List Seen → Type 0
Tail ts ss rest = (p : Place) (t : Tree) → RV (turns (lift applied) (given (part p t)) subquery_part) ts (applied_to p t ss) rest

data IsTail : List Seen → QueryValue → List Seen → Type 0 where
  is_tail : {ts rest : List Seen} {ss : List Suffix} → Tail ts ss rest → IsTail ts (suffixes ss) rest

data IsAfterRange : List Seen → QueryValue → List Seen → Type 0 where
  no_offset : {ts rest : List Seen} {ss : List Suffix} → Tail ts ss rest → IsAfterRange ts (suffixes ss) rest
  an_offset : {ts mid rest : List Seen} {d : ℕ} {q : Place} {ss : List Suffix} → RV offset_part ts (suffixes (by_offset d q ∷ [])) mid → Tail mid ss rest → IsAfterRange ts (suffixes (by_offset d q ∷ ss)) rest

data IsAfterSelector : List Seen → QueryValue → List Seen → Type 0 where
  no_range : {ts rest : List Seen} {v : QueryValue} → IsAfterRange ts v rest → IsAfterSelector ts v rest
  a_range : {ts mid rest : List Seen} {d : ℕ} {q : Place} {ss : List Suffix} → RV range_part ts (suffixes (in_range d q ∷ [])) mid → IsAfterRange mid (suffixes ss) rest → IsAfterSelector ts (suffixes (in_range d q ∷ ss)) rest

-- within brackets, past the opening one, the span, the colon, the step
abbrev range_end : PF
range_end = pair (lift g.range_closed) (sg RightBracket) no_suffixes

abbrev step_part : PF
step_part = either (pair (lift g.with_step) (tok span_at) closing_part) closing_part

data IsStepEnd (f : PF) : List Seen → QueryValue → List Seen → Type 0 where
  step_end : {ts mid rest : List Seen} {step : Option ℕ} {q : Place} {ss : List Suffix} → RV f ts (stepped step q []) mid → IsAfterRange mid (suffixes ss) rest → IsStepEnd f ts (stepped step q ss) rest

data IsSpanEnd : List Seen → QueryValue → List Seen → Type 0 where
  of_range : {ts mid rest : List Seen} {q : Place} {ss : List Suffix} → RV range_end ts (ranged q []) mid → IsAfterRange mid (suffixes ss) rest → IsSpanEnd ts (ranged q ss) rest
  of_step : {ts mid rest : List Seen} {step : Option ℕ} {q : Place} {ss : List Suffix} → RV (pair second (sg Colon) step_part) ts (stepped step q []) mid → IsAfterRange mid (suffixes ss) rest → IsSpanEnd ts (stepped step q ss) rest

data IsInSubquery : List Seen → QueryValue → List Seen → Type 0 where
  in_sub : {ts mid rest : List Seen} {d : ℕ} {step : Option ℕ} {q : Place} {ss : List Suffix} → RV (pair (lift g.bracketed) (tok span_at) (pair second (sg Colon) step_part)) ts (suffixes (in_subquery d step q ∷ [])) mid →
      IsAfterRange mid (suffixes ss) rest → IsInSubquery ts (suffixes (in_subquery d step q ∷ ss)) rest

data IsInSelector : List Seen → QueryValue → List Seen → Type 0 where
  in_sel : {ts mid rest : List Seen} {d : ℕ} {q : Place} {ss : List Suffix} → RV (pair (lift g.bracketed) (tok span_at) range_end) ts (suffixes (in_range d q ∷ [])) mid → IsAfterRange mid (suffixes ss) rest → IsInSelector ts (suffixes (in_range d q ∷ ss)) rest
  in_other : {ts rest : List Seen} {v : QueryValue} → IsInSubquery ts v rest → IsInSelector ts v rest

data IsShifted : List Seen → QueryValue → List Seen → Type 0 where
  is_shifted : {ts mid rest : List Seen} {d : ℕ} {q : Place} {ss : List Suffix} → RV (pair (lift g.shifted) (tok shift_at) no_suffixes) ts (suffixes (by_offset d q ∷ [])) mid → Tail mid ss rest → IsShifted ts (suffixes (by_offset d q ∷ ss)) rest

-- names with braces, and functions with arguments
data IsBraced : List Seen → QueryValue → List Seen → Type 0 where
  no_braces : {ts : List Seen} → IsBraced ts bare ts
  some_braces : {ts rest : List Seen} {ms : List MatchText} {q : Place} → RV (rule (Braces true)) ts (braced ms q) rest → IsBraced ts (braced ms q) rest

data IsSelection : List Seen → QueryValue → List Seen → Type 0 where
  is_selection : {ts mid rest : List Seen} {v : QueryValue} {ss : List Suffix} → IsBraced ts v mid → IsAfterSelector mid (suffixes ss) rest → IsSelection ts (selection v ss) rest

abbrev closed_arguments : PF
closed_arguments = pair second (sg LeftParen) (pair (lift g.arguments_closed) arguments_part (sg RightParen))

data IsCalled : List Seen → QueryValue → List Seen → Type 0 where
  is_called : {ts mid rest : List Seen} {us : Tree} {q : Place} {ss : List Suffix} → RV closed_arguments ts (closed us q) mid → Tail mid ss rest → IsCalled ts (called us q ss) rest
  is_selected : {ts rest : List Seen} {v : QueryValue} → IsSelection ts v rest → IsCalled ts v rest

data AreArguments (f : PF) : List Seen → QueryValue → List Seen → Type 0 where
  are_arguments : {ts rest : List Seen} {us : Tree} → RV f ts (arguments us) rest → AreArguments f ts (arguments us) rest

abbrev aggregation_part : PF
aggregation_part = either (pair (lift g.grouped_before) (rule Group) parameters_part) (pair (lift g.grouped_after) parameters_part (either (rule Group) (nothing (given bare))))

data IsAggregation : List Seen → QueryValue → List Seen → Type 0 where
  is_aggregation : {ts rest : List Seen} {gr : Grouping} {us : Tree} {q : Place} → RV aggregation_part ts (aggregation gr us q) rest → IsAggregation ts (aggregation gr us q) rest

abbrev parameter_part : PF
parameter_part = pair (lift g.parameter) (rule (Expr true)) (either (pair second (sg Comma) (rule (Expr true))) (nothing (given bare)))

-- What holds of the rules.
abbrev Means : Rule → List Seen → QueryValue → List Seen → Type 0
Means (g.Binary l p) ts v rest = IsPart (rule (rule_of l p)) ts v rest
Means (g.Modified l) ts v rest = IsModified l ts v rest
Means (g.Matched l) ts v rest = IsMatched l ts v rest
Means (g.Grouped l) ts v rest = IsGrouped l ts v rest
Means (g.Included l) ts v rest = IsIncluded l ts v rest
Means (g.Unary p) ts v rest = IsPart (rule (Unary p)) ts v rest
Means (g.Postfix p) ts v rest = IsPart (rule (Postfix p)) ts v rest
Means g.Operand ts v rest = IsPart (rule (Postfix false)) ts v rest
Means g.Labels ts v rest = IsNames ts v rest
Means g.MoreLabels ts v rest = IsMoreNames ts v rest
Means (g.Matchers named) ts v rest = IsMatchers named ts v rest
Means (g.MoreMatchers named) ts v rest = IsMoreMatchers named ts v rest
Means g.Braced ts v rest = IsBraced ts v rest
Means g.Selection ts v rest = IsSelection ts v rest
Means g.Tail ts v rest = IsCalled ts v rest
Means g.Arguments ts v rest = AreArguments arguments_part ts v rest
Means g.Aggregation ts v rest = IsAggregation ts v rest
Means g.Parameters ts v rest = AreArguments parameter_part ts v rest
Means (g.After Selectors) ts v rest = IsAfterSelector ts v rest
Means (g.After Ranges) ts v rest = IsAfterRange ts v rest
Means (g.After Others) ts v rest = IsTail ts v rest
Means g.InSelector ts v rest = IsInSelector ts v rest
Means g.SelectorSpan ts v rest = IsSpanEnd ts v rest
Means g.InOther ts v rest = IsInSubquery ts v rest
Means g.Step ts v rest = IsStepEnd step_part ts v rest
Means g.Closing ts v rest = IsStepEnd closing_part ts v rest
Means g.Shift ts v rest = IsShifted ts v rest

abbrev H : F → List Seen → QueryValue → List Seen → Type 0
H f ts v rest = Holds Means f ts v rest

ruled : {n : Rule} {ts rest : List Seen} {v : QueryValue} → H (rule n) ts v rest → Means n ts v rest
ruled (by_rule h) = h

-- a token is one of the plain grammar too, and has a value of its shape
a_token : {p : Seen → Option QueryValue} {ts rest : List Seen} {v : QueryValue} → H (token p) ts v rest → RV (tok p) ts v rest
a_token (by_token e) = is_token (ap (option_map given) e)

record Sequence (c : QueryValue → QueryValue → QueryValue) (f h : F) (ts : List Seen) (v : QueryValue) (rest : List Seen) : Type 0 where
  left : QueryValue
  right : QueryValue
  mid : List Seen
  fore : H f ts left mid
  aft : H h mid right rest
  is : c left right ≡ v

sequence : {c : QueryValue → QueryValue → QueryValue} {f h : F} {ts rest : List Seen} {v : QueryValue} → H (pair c f h) ts v rest → Sequence c f h ts v rest
sequence (by_pair {mid = mid} {v = v} {w = w} a b) = record { left = v; right = w; mid = mid; fore = a; aft = b; is = refl }

-- shapes
shaped : (S : QueryValue → Type 0) (p : Seen → Option QueryValue) {ts rest : List Seen} {v : QueryValue} → ((t : Seen) (w : QueryValue) → p t ≡ Some w → S w) → H (token p) ts v rest → S v
shaped S p s (by_token {t = t} e) = s t _ e

from_if : (P : QueryValue → Type 0) (b : Bool) (v w : QueryValue) → P v → (if b then Some v else None) ≡ Some w → P w
from_if P true v w h e = let same : v ≡ w = cc in subst P same h
from_if P false v w h e = absurd (cc)

from_map : {A : Type 0} (P : QueryValue → Type 0) (f : A → QueryValue) (o : Option A) (w : QueryValue) → ((a : A) → P (f a)) → option_map f o ≡ Some w → P w
from_map P f (Some a) w h e = let same : f a ≡ w = cc in subst P same (h a)
from_map P f None w h e = absurd (cc)

pub data IsWord : QueryValue → Type 0 where
  is_a_word : {p : Place} {n : List ℕ} → IsWord (word p n)

pub data IsFunction : QueryValue → Type 0 where
  is_function : {f : Func} {p : Place} {n : List ℕ} → IsFunction (function f p n)

pub data IsSided : QueryValue → Type 0 where
  is_sided : {card : Card} → IsSided (sided card)

pub data IsLasting : QueryValue → Type 0 where
  is_lasting : {p : Place} {d : ℕ} → IsLasting (lasting p d)

pub data IsLiteral : QueryValue → Type 0 where
  is_literal : {p : Place} {t : Tree} → IsLiteral (part p t)

pub sign_shape : (s : Sign) (t : Seen) (v : QueryValue) → sign_at s t ≡ Some v → IsAt v
sign_shape s (lexed k t) v e = from_if IsAt (is_sign s k) (at (place_of t)) v is_at e

pub word_shape : (w : Word) (t : Seen) (v : QueryValue) → word_at w t ≡ Some v → IsAt v
word_shape w (lexed k t) v e = from_if IsAt (is_word w k) (at (place_of t)) v is_at e

pub label_shape : (named : Bool) (t : Seen) (v : QueryValue) → label_at named t ≡ Some v → IsWord v
label_shape named (lexed k t) v e = from_if IsWord (is_label named k) (word (place_of t) (text_of t.kind)) v is_a_word e

pub metric_shape : (t : Seen) (v : QueryValue) → metric_at t ≡ Some v → IsWord v
metric_shape (lexed k t) v e = from_if IsWord (is_metric k) (word (place_of t) (text_of t.kind)) v is_a_word e

pub function_shape : (t : Seen) (v : QueryValue) → function_at t ≡ Some v → IsFunction v
function_shape (lexed k t) v e = from_map IsFunction (λ f. function f (place_of t) (text_of t.kind)) (function_of k) v (λ a. is_function) e

pub operator_shape : (l : Level) (t : Seen) (v : QueryValue) → operator_at l t ≡ Some v → IsOperation v
operator_shape l (lexed k t) v e = from_map IsOperation operation (operator_of l k) v (λ a. is_operation) e

pub minus_shape : (t : Seen) (v : QueryValue) → minus_at t ≡ Some v → IsSigned v
minus_shape (lexed k t) v e = from_map IsSigned (λ b. signed b (place_of t)) (minus_of k) v (λ a. is_signed) e

pub matching_shape : (t : Seen) (v : QueryValue) → matching_at t ≡ Some v → IsMatches v
matching_shape (lexed k t) v e = from_map IsMatches matches (matching_of k) v (λ a. is_matches) e

pub side_shape : (t : Seen) (v : QueryValue) → side_at t ≡ Some v → IsSided v
side_shape (lexed k t) v e = from_map IsSided sided (side_of k) v (λ a. is_sided) e

pub grouping_shape : (t : Seen) (v : QueryValue) → grouping_at t ≡ Some v → IsGrouper v
grouping_shape (lexed k t) v e = from_map IsGrouper grouper (grouping_of k) v (λ a. is_grouper) e

pub aggregate_shape : (t : Seen) (v : QueryValue) → aggregate_at t ≡ Some v → IsAggregator v
aggregate_shape (lexed k t) v e = from_map IsAggregator (λ op. aggregator op (place_of t)) (aggregate_of k) v (λ a. is_aggregator) e

pub span_shape : (t : Seen) (v : QueryValue) → span_at t ≡ Some v → IsLasting v
span_shape (lexed k t) v e = from_if IsLasting (is_span k) (lasting (place_of t) (span_of t.kind)) v is_lasting e

pub shift_shape : (t : Seen) (v : QueryValue) → shift_at t ≡ Some v → IsLasting v
shift_shape (lexed k t) v e = from_if IsLasting (is_shift k) (lasting (place_of t) (span_of t.kind)) v is_lasting e

pub text_shape : (t : Seen) (v : QueryValue) → text_at t ≡ Some v → IsQuoted v
text_shape (lexed k t) v e = from_if IsQuoted (is_text k) (quoted (text_of t.kind)) v is_quoted e

pub match_shape : (t : Seen) (v : QueryValue) → match_at t ≡ Some v → IsMatchSign v
match_shape (lexed k t) v e = from_map IsMatchSign match_sign (match_of k) v (λ a. is_match_sign) e

pub literal_shape : (t : Seen) (v : QueryValue) → literal_at t ≡ Some v → IsLiteral v
literal_shape (lexed k t) v e = from_map IsLiteral (part (place_of t)) (literal_of k t.kind (place_of t)) v (λ a. is_literal) e

-- operations
tighter_part : (l : Level) (p : Bool) {ts rest : List Seen} {v : QueryValue} → Means (tighter l p) ts v rest → IsPart (rule (below l p)) ts v rest
tighter_part level.Or p h = h
tighter_part level.And p h = h
tighter_part level.Comparison p h = h
tighter_part level.Sum p h = h
tighter_part level.Product p h = h

right_reading : (l : Level) {o u : QueryValue} {ts mid rest : List Seen} → IsOperation o → RV (tok (operator_at l)) ts o mid → IsModified l mid u rest → RV (right_sides l) ts (g.turned o u) rest
right_reading l is_operation a (full m h) = is_left (is_pair a (is_pair m h))
right_reading l is_operation a (bared m h) = is_right (is_pair a (is_pair m h))

data IsTurn : QueryValue → Type 0 where
  is_turn_value : {o : BinOp} {b : Bool} {m : Option Matching} {p : Place} {t : Tree} → IsTurn (turn o b m p t)

turn_shape : (l : Level) {o u : QueryValue} {ts rest : List Seen} → IsOperation o → IsModified l ts u rest → IsTurn (g.turned o u)
turn_shape l is_operation (full m h) = is_turn_value
turn_shape l is_operation (bared m h) = is_turn_value

record RightSide (l : Level) (ts : List Seen) (v : QueryValue) (rest : List Seen) : Type 0 where
  reads : RV (right_sides l) ts v rest
  shape : IsTurn v

right_of : (l : Level) {ts rest : List Seen} {v : QueryValue} → H (right_side l) ts v rest → RightSide l ts v rest
right_of l {ts} {rest} h =
    let s = sequence h in
    let o = shaped IsOperation (operator_at l) (operator_shape l) s.fore in
    let m = ruled s.aft in
    subst (λ v. RightSide l ts v rest) s.is (record { reads = right_reading l o (a_token s.fore) m; shape = turn_shape l o m })

joined_shape : (p : Place) (t : Tree) {w : QueryValue} → IsTurn w → IsLiteral (joined (part p t) w)
joined_shape p t is_turn_value = is_literal

data EndsPart (f : Meaning → PF) : QueryValue → List Seen → QueryValue → List Seen → Type 0 where
  ends_part : {v : QueryValue} {ts rest : List Seen} {p : Place} {t : Tree} → RV (f (given v)) ts (part p t) rest → EndsPart f v ts (part p t) rest

turned_on : (l : Level) {v w x : QueryValue} {ts mid rest : List Seen} → RightSide l ts w mid → EndsPart (λ m. turns (lift joined) m (right_sides l)) (joined v w) mid x rest → EndsPart (λ m. turns (lift joined) m (right_sides l)) v ts x rest
turned_on l r (ends_part e) = ends_part (is_turn r.reads e)

abbrev Sided : Level → F → Type 0
Sided l h = (ts : List Seen) (v : QueryValue) (rest : List Seen) → H h ts v rest → RightSide l ts v rest

turns_of : (l : Level) (h : F) → Sided l h → {v x : QueryValue} {ts rest : List Seen} → IsLiteral v → H (turns joined v h) ts x rest → EndsPart (λ m. turns (lift joined) m (right_sides l)) v ts x rest
turns_of l h conv is_literal by_stop = ends_part is_stop
turns_of l h conv (is_literal {p = p} {t = t}) (by_turn a d) = let r = conv _ _ _ a in turned_on l r (turns_of l h conv (joined_shape p t r.shape) d)

folded : (l : Level) (p : Bool) {v x : QueryValue} {ts mid rest : List Seen} → RV (rule (below l p)) ts v mid → EndsPart (λ m. turns (lift joined) m (right_sides l)) v mid x rest → IsPart (operations l p) ts x rest
folded l p b (ends_part e) = is_part (is_fold b e)

operation_part : (l : Level) (p : Bool) (h : F) → Sided l h → {v x : QueryValue} {ts mid rest : List Seen} → IsPart (rule (below l p)) ts v mid → H (turns joined v h) mid x rest → IsPart (operations l p) ts x rest
operation_part l p h conv (is_part b) d = folded l p b (turns_of l h conv is_literal d)

level_rule : (l : Level) (p : Bool) {ts rest : List Seen} {v : QueryValue} → IsPart (operations l p) ts v rest → IsPart (rule (rule_of l p)) ts v rest
level_rule level.Or p (is_part h) = is_part (is_rule h)
level_rule level.And p (is_part h) = is_part (is_rule h)
level_rule level.Comparison p (is_part h) = is_part (is_rule h)
level_rule level.Sum p (is_part h) = is_part (is_rule h)
level_rule level.Product p (is_part h) = is_part (is_rule h)

-- modifiers
with_bool_of : (l : Level) {u v : QueryValue} {ts mid rest : List Seen} → RV (wd BoolWord) ts u mid → IsMatched l mid v rest → IsModified l ts (g.with_bool u v) rest
with_bool_of l a (not_matched h) = full (is_rule (is_pair (is_left a) (is_right is_nothing))) h
with_bool_of l a (matched_full m h) = full (is_rule (is_pair (is_left a) (is_left m))) h
with_bool_of l a (matched_bare m h) = bared (is_rule (is_pair (is_left a) m)) h

without_bool : (l : Level) {v : QueryValue} {ts rest : List Seen} → IsMatched l ts v rest → IsModified l ts v rest
without_bool l (not_matched h) = full (is_rule (is_pair (is_right is_nothing) (is_right is_nothing))) h
without_bool l (matched_full m h) = full (is_rule (is_pair (is_right is_nothing) (is_left m))) h
without_bool l (matched_bare m h) = bared (is_rule (is_pair (is_right is_nothing) m)) h

data IsLabels : List Seen → QueryValue → List Seen → Type 0 where
  is_labels : {ts rest : List Seen} {ns : List (List ℕ)} {q : Place} → RV (rule Labels) ts (labels ns q) rest → IsLabels ts (labels ns q) rest

matched_of : (l : Level) {u v w : QueryValue} {ts mid next rest : List Seen} → IsMatches u → RV (tok matching_at) ts u mid → IsLabels mid v next → IsGrouped l next w rest → IsMatched l ts (g.matched u (g.named_by v w)) rest
matched_of l is_matches a (is_labels b) (not_grouped h) = matched_full (is_pair a (is_pair b (is_right is_nothing))) h
matched_of l is_matches a (is_labels b) (grouped_full s h) = matched_full (is_pair a (is_pair b (is_left s))) h
matched_of l is_matches a (is_labels b) (grouped_bare s h) = matched_bare (is_pair a (is_pair b s)) h

unmatched_of : (l : Level) (u : QueryValue) {v : QueryValue} {ts rest : List Seen} → IsPart (rule (below l true)) ts v rest → IsMatched l ts (g.unmatched u v) rest
unmatched_of l u (is_part h) = not_matched h

ungrouped_of : (l : Level) (u : QueryValue) {v : QueryValue} {ts rest : List Seen} → IsPart (rule (below l true)) ts v rest → IsGrouped l ts (g.ungrouped u v) rest
ungrouped_of l u (is_part h) = not_grouped h

grouped_of : (l : Level) {u v : QueryValue} {ts mid rest : List Seen} → IsSided u → RV (tok side_at) ts u mid → IsIncluded l mid v rest → IsGrouped l ts (g.grouped_by u v) rest
grouped_of l is_sided a (included_full b h) = grouped_full (is_pair a b) h
grouped_of l is_sided a (included_none h) = grouped_bare a h

including_of : (l : Level) {u v : QueryValue} {ts mid rest : List Seen} → IsLabels ts u mid → IsPart (rule (below l true)) mid v rest → IsIncluded l ts (g.including u v) rest
including_of l (is_labels a) (is_part h) = included_full a h

including_none_of : (l : Level) (u : QueryValue) {v : QueryValue} {ts rest : List Seen} → IsPart (rule (below l false)) ts v rest → IsIncluded l ts (g.including_none u v) rest
including_none_of l u (is_part h) = included_none h

-- names
more_here : {ts : List Seen} (ms : List (List ℕ)) → MoreNames [] ts ts ms
more_here {ts} ms = record { mid = ts; last = absent; turned = subst (λ ns. RP (turns one_more_name (given (names ms)) next_name) ts (given (names ns)) ts) (sym (append-nil ms)) is_stop; comma = is_right is_nothing }

last_comma : {c : QueryValue} {ts rest : List Seen} → RV (sg Comma) ts c rest → (ms : List (List ℕ)) → MoreNames [] ts rest ms
last_comma {c} {ts} {rest} a ms = record { mid = ts; last = given c; turned = subst (λ ns. RP (turns one_more_name (given (names ms)) next_name) ts (given (names ns)) ts) (sym (append-nil ms)) is_stop; comma = is_left a }

one_name : {c : QueryValue} {p : Place} {n : List ℕ} {ns : List (List ℕ)} {ts mid next rest : List Seen} → RV (sg Comma) ts c mid → RV (tok (label_at false)) mid (word p n) next → ((ms : List (List ℕ)) → MoreNames ns next rest ms) → (ms : List (List ℕ)) → MoreNames (n ∷ ns) ts rest ms
one_name {n = n} {ns = ns} {ts = ts} a b more_of ms = let x = more_of (ms ++ n ∷ []) in record {
  mid = x.mid;
  last = x.last;
  turned = subst (λ us. RP (turns one_more_name (given (names ms)) next_name) ts (given (names us)) x.mid) (append_assoc ms (n ∷ []) ns) (is_turn (is_pair a b) x.turned);
  comma = x.comma;
}

comma_names : {c v : QueryValue} {ts mid rest : List Seen} → RV (sg Comma) ts c mid → IsNames mid v rest → IsMoreNames ts v rest
comma_names a no_names = are_more (last_comma a)
comma_names a (some_names b more_of) = are_more (one_name a b more_of)

name_and_more : {u v : QueryValue} {ts mid rest : List Seen} → IsWord u → RV (tok (label_at false)) ts u mid → IsMoreNames mid v rest → IsNames ts (g.name_first u v) rest
name_and_more is_a_word a (are_more h) = some_names a h

names_reading : {v : QueryValue} {ts rest : List Seen} → IsNames ts v rest → RV names_part ts v rest
names_reading no_names = is_right is_nothing
names_reading (some_names a more_of) = let x = more_of (_ ∷ []) in is_left (is_pair (is_fold (is_pair is_nothing a) x.turned) x.comma)

labels_reading : {u v w : QueryValue} {ts mid next rest : List Seen} → RV (sg LeftParen) ts u mid → IsNames mid v next → IsAt w → RV (sg RightParen) next w rest → IsLabels ts (g.second_of u (g.names_closed v w)) rest
labels_reading a no_names is_at b = is_labels (is_rule (is_pair a (is_pair (names_reading no_names) b)))
labels_reading a (some_names c m) is_at b = is_labels (is_rule (is_pair a (is_pair (names_reading (some_names c m)) b)))

label_list_of : {ts rest : List Seen} {v : QueryValue} → H label_list ts v rest → IsLabels ts v rest
label_list_of (by_pair a (by_pair (by_rule h) b)) = labels_reading (a_token a) h (shaped IsAt (sign_at RightParen) (sign_shape RightParen) b) (a_token b)

-- matchers
matchers_here : (named : Bool) {ts : List Seen} (ms : List MatchText) → MoreMatchers named [] ts ts ms
matchers_here named {ts} ms = record { mid = ts; last = absent; turned = subst (λ ns. RP (turns one_more_matcher (given (matchers ms)) (next_matcher named)) ts (given (matchers ns)) ts) (sym (append-nil ms)) is_stop; comma = is_right is_nothing }

last_matcher_comma : (named : Bool) {c : QueryValue} {ts rest : List Seen} → RV (sg Comma) ts c rest → (ms : List MatchText) → MoreMatchers named [] ts rest ms
last_matcher_comma named {c} {ts} {rest} a ms = record { mid = ts; last = given c; turned = subst (λ ns. RP (turns one_more_matcher (given (matchers ms)) (next_matcher named)) ts (given (matchers ns)) ts) (sym (append-nil ms)) is_stop; comma = is_left a }

one_matcher : (named : Bool) {c : QueryValue} {n : MatchText} {ns : List MatchText} {ts mid next rest : List Seen} → RV (sg Comma) ts c mid → RV (rule (M named)) mid (matchers (n ∷ [])) next → ((ms : List MatchText) → MoreMatchers named ns next rest ms) → (ms : List MatchText) → MoreMatchers named (n ∷ ns) ts rest ms
one_matcher named {n = n} {ns = ns} {ts = ts} a b more_of ms = let x = more_of (ms ++ n ∷ []) in record {
  mid = x.mid;
  last = x.last;
  turned = subst (λ us. RP (turns one_more_matcher (given (matchers ms)) (next_matcher named)) ts (given (matchers us)) x.mid) (append_assoc ms (n ∷ []) ns) (is_turn (is_pair a b) x.turned);
  comma = x.comma;
}

comma_matchers : (named : Bool) {c v : QueryValue} {ts mid rest : List Seen} → RV (sg Comma) ts c mid → IsMatchers named mid v rest → IsMoreMatchers named ts v rest
comma_matchers named a no_matchers = are_more_matchers (last_matcher_comma named a)
comma_matchers named a (some_matchers b more_of) = are_more_matchers (one_matcher named a b more_of)

matcher_and_more : (named : Bool) {u v w x : QueryValue} {ts a b c rest : List Seen} → IsWord u → RV (tok (label_at named)) ts u a → IsMatchSign v → RV (tok match_at) a v b → IsQuoted w → RV (tok text_at) b w c → IsMoreMatchers named c x rest →
    IsMatchers named ts (g.match_first u (g.match_before (g.match_of_text v w) x)) rest
matcher_and_more named is_a_word i is_match_sign j is_quoted k (are_more_matchers h) = some_matchers (is_rule (is_pair i (is_pair j k))) h

matchers_reading : (named : Bool) {v : QueryValue} {ts rest : List Seen} → IsMatchers named ts v rest → RV (matchers_part named) ts v rest
matchers_reading named no_matchers = is_right is_nothing
matchers_reading named (some_matchers {m = m} a more_of) = let x = more_of (m ∷ []) in is_left (is_pair (is_fold a x.turned) x.comma)

data IsBraces (named : Bool) : List Seen → QueryValue → List Seen → Type 0 where
  is_braces : {ts rest : List Seen} {ms : List MatchText} {q : Place} → RV (rule (Braces named)) ts (braced ms q) rest → IsBraces named ts (braced ms q) rest

braces_reading : (named : Bool) {u v w : QueryValue} {ts mid next rest : List Seen} → IsAt u → RV (sg LeftBrace) ts u mid → IsMatchers named mid v next → IsAt w → RV (sg RightBrace) next w rest → IsBraces named ts (g.matchers_opened u (g.matchers_closed v w)) rest
braces_reading named is_at a no_matchers is_at b = is_braces (is_rule (is_pair a (is_pair (matchers_reading named no_matchers) b)))
braces_reading named is_at a (some_matchers c m) is_at b = is_braces (is_rule (is_pair a (is_pair (matchers_reading named (some_matchers c m)) b)))

matcher_list_of : (named : Bool) {ts rest : List Seen} {v : QueryValue} → H (matcher_list named) ts v rest → IsBraces named ts v rest
matcher_list_of named {ts} {rest} h =
    let s = sequence h in let t = sequence s.aft in
    subst (λ v. IsBraces named ts v rest) s.is (subst (λ v. IsBraces named ts (g.matchers_opened s.left v) rest) t.is
    (braces_reading named (shaped IsAt (sign_at LeftBrace) (sign_shape LeftBrace) s.fore) (a_token s.fore) (ruled t.fore) (shaped IsAt (sign_at RightBrace) (sign_shape RightBrace) t.aft) (a_token t.aft)))

matcher_of : (named : Bool) {ts rest : List Seen} {v : QueryValue} → H (matcher named) ts v rest → IsMatchers named ts v rest
matcher_of named {ts} {rest} h =
    let s = sequence h in let t = sequence s.aft in let u = sequence t.fore in
    subst (λ v. IsMatchers named ts v rest) s.is (subst (λ v. IsMatchers named ts (g.match_first s.left v) rest) t.is (subst (λ v. IsMatchers named ts (g.match_first s.left (g.match_before v t.right)) rest) u.is
    (matcher_and_more named (shaped IsWord (label_at named) (label_shape named) s.fore) (a_token s.fore) (shaped IsMatchSign match_at match_shape u.fore) (a_token u.fore) (shaped IsQuoted text_at text_shape u.aft) (a_token u.aft) (ruled t.aft))))

-- what follows a primary
no_subquery : {ts : List Seen} → IsTail ts (suffixes []) ts
no_subquery = is_tail (λ p t. is_stop)

tail_of : {c v : QueryValue} {ts mid rest : List Seen} → RV (sg LeftBracket) ts c mid → IsInSubquery mid v rest → IsTail ts v rest
tail_of a (in_sub b (no_offset h)) = is_tail (λ p t. is_turn (is_pair (is_pair a b) (is_right is_nothing)) (h _ _))
tail_of a (in_sub b (an_offset c h)) = is_tail (λ p t. is_turn (is_pair (is_pair a b) (is_left c)) (h _ _))

tail_range : {v : QueryValue} {ts rest : List Seen} → IsTail ts v rest → IsAfterRange ts v rest
tail_range (is_tail h) = no_offset h

offset_of : {c v : QueryValue} {ts mid rest : List Seen} → RV (wd Offset) ts c mid → IsShifted mid v rest → IsAfterRange ts v rest
offset_of a (is_shifted b h) = an_offset (is_pair a b) h

selector_of_range : {c v : QueryValue} {ts mid rest : List Seen} → RV (sg LeftBracket) ts c mid → IsInSelector mid v rest → IsAfterSelector ts v rest
selector_of_range a (in_sel b h) = a_range (is_pair a b) h
selector_of_range a (in_other h) = no_range (tail_range (tail_of a h))

span_end_of : {u v : QueryValue} {ts mid rest : List Seen} → IsLasting u → RV (tok span_at) ts u mid → IsSpanEnd mid v rest → IsInSelector ts (g.bracketed u v) rest
span_end_of is_lasting a (of_range b h) = in_sel (is_pair a b) h
span_end_of is_lasting a (of_step b h) = in_other (in_sub (is_pair a b) h)

range_closed_of : {u v : QueryValue} {ts mid rest : List Seen} → IsAt u → RV (sg RightBracket) ts u mid → IsAfterRange mid v rest → IsSpanEnd ts (g.range_closed u v) rest
range_closed_of is_at a (no_offset h) = of_range (is_pair a is_nothing) (no_offset h)
range_closed_of is_at a (an_offset b h) = of_range (is_pair a is_nothing) (an_offset b h)

colon_step : {c v : QueryValue} {ts mid rest : List Seen} → RV (sg Colon) ts c mid → IsStepEnd step_part mid v rest → IsSpanEnd ts v rest
colon_step a (step_end b h) = of_step (is_pair a b) h

sub_of : {c u v : QueryValue} {ts mid next rest : List Seen} → IsLasting u → RV (tok span_at) ts u mid → RV (sg Colon) mid c next → IsStepEnd step_part next v rest → IsInSubquery ts (g.bracketed u v) rest
sub_of is_lasting a b (step_end c h) = in_sub (is_pair a (is_pair b c)) h

step_of : {u v : QueryValue} {ts mid rest : List Seen} → IsLasting u → RV (tok span_at) ts u mid → IsStepEnd closing_part mid v rest → IsStepEnd step_part ts (g.with_step u v) rest
step_of is_lasting a (step_end b h) = step_end (is_left (is_pair a b)) h

no_step : {v : QueryValue} {ts rest : List Seen} → IsStepEnd closing_part ts v rest → IsStepEnd step_part ts v rest
no_step (step_end b h) = step_end (is_right b) h

closing_of : {u v : QueryValue} {ts mid rest : List Seen} → IsAt u → RV (sg RightBracket) ts u mid → IsAfterRange mid v rest → IsStepEnd closing_part ts (g.step_closed u v) rest
closing_of is_at a (no_offset h) = step_end (is_pair a is_nothing) (no_offset h)
closing_of is_at a (an_offset b h) = step_end (is_pair a is_nothing) (an_offset b h)

shifted_of : {u v : QueryValue} {ts mid rest : List Seen} → IsLasting u → RV (tok shift_at) ts u mid → IsTail mid v rest → IsShifted ts (g.shifted u v) rest
shifted_of is_lasting a (is_tail h) = is_shifted (is_pair a is_nothing) h

-- selectors
applied_shape : (p : Place) (t : Tree) (ss : List Suffix) → IsLiteral (applied_to p t ss)
applied_shape p t [] = is_literal
applied_shape p t (in_range d q ∷ ss) = applied_shape (through p q) (g.range_made (through p q) d t) ss
applied_shape p t (in_subquery d step q ∷ ss) = applied_shape (through p q) (sub (through p q) t d step 0) ss
applied_shape p t (by_offset d q ∷ ss) = applied_shape (through p q) (g.offset_set (through p q) d t) ss

a_part : {f : PF} {v : QueryValue} {ts rest : List Seen} → IsLiteral v → RV f ts v rest → IsPart f ts v rest
a_part is_literal h = is_part h

selector_reading : (p : Place) (t : Tree) {v : QueryValue} {ts mid rest : List Seen} → RV (rule Selector) ts (part p t) mid → IsAfterSelector mid v rest → RV after_selector ts (applied (part p t) v) rest
selector_reading p t a (no_range (no_offset h)) = is_fold (is_pair (is_pair a (is_right is_nothing)) (is_right is_nothing)) (h p t)
selector_reading p t a (no_range (an_offset b h)) = is_fold (is_pair (is_pair a (is_right is_nothing)) (is_left b)) (h _ _)
selector_reading p t a (a_range c (no_offset h)) = is_fold (is_pair (is_pair a (is_left c)) (is_right is_nothing)) (h _ _)
selector_reading p t a (a_range c (an_offset b h)) = is_fold (is_pair (is_pair a (is_left c)) (is_left b)) (h _ _)

selected_shape : (p : Place) (t : Tree) {v : QueryValue} {ts rest : List Seen} → IsAfterSelector ts v rest → IsLiteral (applied (part p t) v)
selected_shape p t (no_range (no_offset {ss = ss} h)) = applied_shape p t ss
selected_shape p t (no_range (an_offset {d = d} {q = q} {ss = ss} b h)) = applied_shape p t (by_offset d q ∷ ss)
selected_shape p t (a_range {d = d} {q = q} {ss = ss} c h) = applied_shape p t (in_range d q ∷ ss)

by_selector : (p : Place) (t : Tree) {v : QueryValue} {ts mid rest : List Seen} → RV (rule Selector) ts (part p t) mid → IsAfterSelector mid v rest → IsPart (rule (Postfix false)) ts (applied (part p t) v) rest
by_selector p t a h = a_part (selected_shape p t h) (is_rule (is_left (selector_reading p t a h)))

by_primary : (o : Bool) (p : Place) (t : Tree) {v : QueryValue} {ts mid rest : List Seen} → RV (rule (Primary o)) ts (part p t) mid → IsTail mid v rest → IsPart (rule (Postfix o)) ts (applied (part p t) v) rest
by_primary o p t a (is_tail {ss = ss} h) = a_part (applied_shape p t ss) (is_rule (is_right (is_fold a (h p t))))

-- a metric's name, or that of a function
metric_name : (t : Seen) (v : QueryValue) → metric_at t ≡ Some v → name_at t ≡ Some v
metric_name (lexed k t) v e = by_test (is_metric k) (is_some (function_of k)) (word (place_of t) (text_of t.kind)) e
  where
    by_test : (a b : Bool) (w : QueryValue) → (if a then Some w else None) ≡ Some v → (if a || b then Some w else None) ≡ Some v
    by_test true b w e = e
    by_test false b w e = absurd (cc)

data IsNamed (t : Seen) : QueryValue → Type 0 where
  is_named : {f : Func} {p : Place} {n : List ℕ} → name_at t ≡ Some (word p n) → IsNamed t (function f p n)

function_name : (t : Seen) (v : QueryValue) → function_at t ≡ Some v → IsNamed t v
function_name (lexed k t) v e = of_kind k e
  where
    of_kind : (k : TokenClass) → function_at (lexed k t) ≡ Some v → IsNamed (lexed k t) v
    of_kind (Function f) e = let same : function f (place_of t) (text_of t.kind) ≡ v = cc in subst (IsNamed (lexed (Function f) t)) same (is_named refl)
    of_kind _ e = absurd (cc)

named_reading : (p : Place) (n : List ℕ) {v : QueryValue} {ts mid rest : List Seen} → RV (tok name_at) ts (word p n) mid → IsSelection mid v rest → IsPart (rule (Postfix false)) ts (g.named (word p n) v) rest
named_reading p n a (is_selection no_braces h) = by_selector p (select p (selector_of (Some n) [])) (is_rule (is_left (is_pair a (is_right is_nothing)))) h
named_reading p n a (is_selection (some_braces {ms = ms} {q = q} b) h) = by_selector (through p q) (select (through p q) (selector_of (Some n) ms)) (is_rule (is_left (is_pair a (is_left b)))) h

name_token : {u : QueryValue} {ts rest : List Seen} → H (token metric_at) ts u rest → RV (tok name_at) ts u rest
name_token (by_token {t = t} e) = is_token (ap (option_map given) (metric_name t _ e))

metric_of : {u v : QueryValue} {ts mid rest : List Seen} → IsWord u → RV (tok name_at) ts u mid → IsSelection mid v rest → IsPart (rule (Postfix false)) ts (g.named u v) rest
metric_of (is_a_word {p = p} {n = n}) a h = named_reading p n a h

data IsFunctionToken (ts : List Seen) (mid : List Seen) : QueryValue → Type 0 where
  function_token : {f : Func} {p : Place} {n : List ℕ} → RV (tok function_at) ts (function f p n) mid → RV (tok name_at) ts (word p n) mid → IsFunctionToken ts mid (function f p n)

token_function : {t : Seen} {v : QueryValue} (rest : List Seen) → function_at t ≡ Some v → IsNamed t v → IsFunctionToken (t ∷ rest) rest v
token_function rest e (is_named h) = function_token (is_token (ap (option_map given) e)) (is_token (ap (option_map given) h))

function_of_token : {v : QueryValue} {ts rest : List Seen} → H (token function_at) ts v rest → IsFunctionToken ts rest v
function_of_token (by_token {t = t} {rest = rest} e) = token_function rest e (function_name t _ e)

called_of : {u v : QueryValue} {ts mid rest : List Seen} → IsFunctionToken ts mid u → IsCalled mid v rest → IsPart (rule (Postfix false)) ts (g.function_called u v) rest
called_of (function_token {f = f} {p = p} a b) (is_called {us = us} {q = q} {ss = ss} c h) = by_primary false (through p q) (call (through p q) f us) (is_rule (is_right (is_left (is_pair a c)))) (is_tail {ss = ss} h)
called_of (function_token {p = p} {n = n} a b) (is_selected (is_selection c h)) = named_reading p n b (is_selection c h)

literal_of_token : {u v : QueryValue} {ts mid rest : List Seen} → IsLiteral u → RV (tok literal_at) ts u mid → IsTail mid v rest → IsPart (rule (Postfix false)) ts (applied u v) rest
literal_of_token (is_literal {p = p} {t = t}) a h = by_primary false p t (is_rule (is_left a)) h

aggregate_of_token : {u v w : QueryValue} {ts mid next rest : List Seen} → IsAggregator u → RV (tok aggregate_at) ts u mid → IsAggregation mid v next → IsTail next w rest → IsPart (rule (Postfix false)) ts (applied (aggregation_made u v) w) rest
aggregate_of_token (is_aggregator {o = o} {p = p}) a (is_aggregation {gr = gr} {us = us} {q = q} b) h = by_primary false (through p q) (aggregate (through p q) o gr us) (is_rule (is_right (is_right (is_pair a b)))) h

data AreSuffixes : QueryValue → Type 0 where
  are_suffixes : {ss : List Suffix} → AreSuffixes (suffixes ss)

after_shape : {v : QueryValue} {ts rest : List Seen} → IsAfterSelector ts v rest → AreSuffixes v
after_shape (no_range (no_offset h)) = are_suffixes
after_shape (no_range (an_offset b h)) = are_suffixes
after_shape (a_range c h) = are_suffixes

unnamed_by : {v : QueryValue} {ts mid rest : List Seen} {ms : List MatchText} {q : Place} → RV (rule (Braces false)) ts (braced ms q) mid → AreSuffixes v → IsAfterSelector mid v rest → IsPart (rule (Postfix false)) ts (g.unnamed (braced ms q) v) rest
unnamed_by {ms = ms} {q = q} a are_suffixes h = by_selector q (select q (selector_of None ms)) (is_rule (is_right (is_pair is_nothing a))) h

unnamed_of : {u v : QueryValue} {ts mid rest : List Seen} → IsBraces false ts u mid → IsAfterSelector mid v rest → IsPart (rule (Postfix false)) ts (g.unnamed u v) rest
unnamed_of (is_braces a) h = unnamed_by a (after_shape h) h

selecting_by : {u v : QueryValue} {ts mid rest : List Seen} → IsBraced ts u mid → AreSuffixes v → IsAfterSelector mid v rest → IsSelection ts (g.selecting u v) rest
selecting_by a are_suffixes h = is_selection a h

braced_of : {v : QueryValue} {ts rest : List Seen} → IsBraces true ts v rest → IsBraced ts v rest
braced_of (is_braces a) = some_braces a

-- signs and parentheses
signed_of : (p : Bool) {u v : QueryValue} {ts mid rest : List Seen} → IsSigned u → RV (tok minus_at) ts u mid → IsPart (rule (Unary true)) mid v rest → IsPart (rule (Unary p)) ts (g.signed_by u v) rest
signed_of p (is_signed {b = true}) a (is_part h) = is_part (is_rule (is_left (is_pair a h)))
signed_of p (is_signed {b = false}) a (is_part h) = is_part (is_rule (is_left (is_pair a h)))

postfix_unary : (p : Bool) {v : QueryValue} {ts rest : List Seen} → IsPart (rule (Postfix p)) ts v rest → IsPart (rule (Unary p)) ts v rest
postfix_unary p (is_part h) = is_part (is_rule (is_right h))

enclosed_of : {u v w x : QueryValue} {ts a b c rest : List Seen} → IsAt u → RV (sg LeftParen) ts u a → IsPart (rule (Expr true)) a v b → IsAt w → RV (sg RightParen) b w c → IsTail c x rest →
    IsPart (rule (Postfix true)) ts (applied (g.opened_by u (g.closed_by v w)) x) rest
enclosed_of (is_at {p = o}) i (is_part {p = p} {t = t} h) (is_at {p = c}) j k = by_primary true (through o (through p c)) t (is_rule (is_left (is_pair i (is_pair h j)))) k

wider : {v : QueryValue} {ts rest : List Seen} → RV (rule (Postfix false)) ts v rest → RV (rule (Postfix true)) ts v rest
wider (is_rule (is_left d)) = is_rule (is_left d)
wider (is_rule (is_right (is_fold b d))) = is_rule (is_right (is_fold (is_rule (is_right b)) d))

wider_part : {v : QueryValue} {ts rest : List Seen} → IsPart (rule (Postfix false)) ts v rest → IsPart (rule (Postfix true)) ts v rest
wider_part (is_part h) = is_part (wider h)

-- arguments
abbrev next_plain_argument : PF
next_plain_argument = pair second (sg Comma) (rule (Expr true))

data EndsArguments (us : Tree) : List Seen → QueryValue → List Seen → Type 0 where
  ends_arguments : {ts rest : List Seen} {ws : Tree} → RV (turns (lift argument) (given (arguments us)) next_plain_argument) ts (arguments ws) rest → EndsArguments us ts (arguments ws) rest

one_argument : {us t : Tree} {p : Place} {c x : QueryValue} {ts mid next rest : List Seen} → RV (sg Comma) ts c mid → RV (rule (Expr true)) mid (part p t) next → EndsArguments (more us t) next x rest → EndsArguments us ts x rest
one_argument a b (ends_arguments d) = ends_arguments (is_turn (is_pair a b) d)

argument_turns : (us : Tree) {x : QueryValue} {ts rest : List Seen} → H (turns argument (arguments us) next_argument) ts x rest → EndsArguments us ts x rest
argument_turns us by_stop = ends_arguments is_stop
argument_turns us (by_turn (by_pair a (by_rule (is_part {t = t} b))) d) = one_argument (a_token a) b (argument_turns (more us t) d)

some_of : {p : Place} {t : Tree} {x : QueryValue} {ts mid rest : List Seen} → RV (rule (Expr true)) ts (part p t) mid → EndsArguments (more none t) mid x rest → AreArguments arguments_part ts x rest
some_of a (ends_arguments d) = are_arguments (is_left (is_fold (is_pair is_nothing a) d))

called_tail : {u v w x : QueryValue} {ts a b c rest : List Seen} → RV (sg LeftParen) ts u a → AreArguments arguments_part a v b → IsAt w → RV (sg RightParen) b w c → IsTail c x rest → IsCalled ts (g.arguments_followed (g.arguments_closed v w) x) rest
called_tail i (are_arguments h) is_at j (is_tail k) = is_called (is_pair i (is_pair h j)) k

-- aggregations
data IsGroup : List Seen → QueryValue → List Seen → Type 0 where
  is_group : {ts rest : List Seen} {gr : Grouping} {p : Place} → RV (rule Group) ts (grouping gr p) rest → IsGroup ts (grouping gr p) rest

group_made : {u v : QueryValue} {ts mid rest : List Seen} → IsGrouper u → RV (tok grouping_at) ts u mid → IsLabels mid v rest → IsGroup ts (g.grouping_made u v) rest
group_made is_grouper a (is_labels b) = is_group (is_rule (is_pair a b))

group_of : {v : QueryValue} {ts rest : List Seen} → H group ts v rest → IsGroup ts v rest
group_of (by_pair a b) = group_made (shaped IsGrouper grouping_at grouping_shape a) (a_token a) (label_list_of b)

data IsGivenClosed : List Seen → QueryValue → List Seen → Type 0 where
  is_given_closed : {ts rest : List Seen} {us : Tree} {q : Place} → RV parameters_part ts (closed us q) rest → IsGivenClosed ts (closed us q) rest

given_closed : {u v w : QueryValue} {ts a b rest : List Seen} → RV (sg LeftParen) ts u a → AreArguments parameter_part a v b → IsAt w → RV (sg RightParen) b w rest → IsGivenClosed ts (g.second_of u (g.arguments_closed v w)) rest
given_closed i (are_arguments h) is_at j = is_given_closed (is_pair i (is_pair h j))

parameters_of : {v : QueryValue} {ts rest : List Seen} → H parameters ts v rest → IsGivenClosed ts v rest
parameters_of (by_pair a (by_pair (by_rule h) b)) = given_closed (a_token a) h (shaped IsAt (sign_at RightParen) (sign_shape RightParen) b) (a_token b)

before_of : {u v : QueryValue} {ts mid rest : List Seen} → IsGroup ts u mid → IsGivenClosed mid v rest → IsAggregation ts (g.grouped_before u v) rest
before_of (is_group a) (is_given_closed b) = is_aggregation (is_left (is_pair a b))

after_of : {u v : QueryValue} {ts mid rest : List Seen} → IsGivenClosed ts u mid → IsGroup mid v rest → IsAggregation ts (g.grouped_after u v) rest
after_of (is_given_closed a) (is_group b) = is_aggregation (is_right (is_pair a (is_left b)))

after_none : {u : QueryValue} {ts rest : List Seen} → IsGivenClosed ts u rest → IsAggregation ts (g.grouped_after u bare) rest
after_none (is_given_closed a) = is_aggregation (is_right (is_pair a (is_right is_nothing)))

two_of : {u v w : QueryValue} {ts mid next rest : List Seen} → IsPart (rule (Expr true)) ts u mid → RV (sg Comma) mid v next → IsPart (rule (Expr true)) next w rest → AreArguments parameter_part ts (g.parameter u (g.second_of v w)) rest
two_of (is_part a) c (is_part b) = are_arguments (is_pair a (is_left (is_pair c b)))

one_of : {u : QueryValue} {ts rest : List Seen} → IsPart (rule (Expr true)) ts u rest → AreArguments parameter_part ts (g.parameter u bare) rest
one_of (is_part a) = are_arguments (is_pair a (is_right is_nothing))

means : (n : Rule) (ts : List Seen) (v : QueryValue) (rest : List Seen) → H (production n) ts v rest → Means n ts v rest
means (g.Binary l p) _ _ _ (by_fold (by_rule h) d) = level_rule l p (operation_part l p (right_side l) (λ ts v rest a. right_of l a) (tighter_part l p h) d)
means (g.Modified l) _ _ _ (by_left (by_pair a (by_rule h))) = with_bool_of l (a_token a) h
means (g.Modified l) _ _ _ (by_right (by_rule h)) = without_bool l h
means (g.Matched l) _ _ _ (by_left (by_pair a (by_pair b (by_rule h)))) = matched_of l (shaped IsMatches matching_at matching_shape a) (a_token a) (label_list_of b) h
means (g.Matched l) _ _ _ (by_right (by_pair by_nothing (by_rule h))) = unmatched_of l g.mark (tighter_part l true h)
means (g.Grouped l) _ _ _ (by_left (by_pair a (by_rule h))) = grouped_of l (shaped IsSided side_at side_shape a) (a_token a) h
means (g.Grouped l) _ _ _ (by_right (by_pair by_nothing (by_rule h))) = ungrouped_of l g.mark (tighter_part l true h)
means (g.Included l) _ _ _ (by_left (by_pair a (by_rule h))) = including_of l (label_list_of a) (tighter_part l true h)
means (g.Included l) _ _ _ (by_right (by_pair by_nothing (by_rule h))) = including_none_of l g.mark (tighter_part l false h)
means (g.Unary p) _ _ _ (by_left (by_pair a (by_rule h))) = signed_of p (shaped IsSigned minus_at minus_shape a) (a_token a) h
means (g.Unary p) _ _ _ (by_right (by_rule h)) = postfix_unary p h
means (g.Postfix true) _ _ _ (by_left (by_pair (by_pair a (by_pair (by_rule h) b)) (by_rule k))) =
    enclosed_of (shaped IsAt (sign_at LeftParen) (sign_shape LeftParen) a) (a_token a) h (shaped IsAt (sign_at RightParen) (sign_shape RightParen) b) (a_token b) k
means (g.Postfix true) _ _ _ (by_right (by_rule h)) = wider_part h
means (g.Postfix false) _ _ _ (by_rule h) = h
means g.Operand _ _ _ (by_left (by_pair a (by_rule k))) = literal_of_token (shaped IsLiteral literal_at literal_shape a) (a_token a) k
means g.Operand _ _ _ (by_right (by_left (by_pair a (by_rule k)))) = metric_of (shaped IsWord metric_at metric_shape a) (name_token a) k
means g.Operand _ _ _ (by_right (by_right (by_left (by_pair a (by_rule k))))) = called_of (function_of_token a) k
means g.Operand _ _ _ (by_right (by_right (by_right (by_left (by_pair (by_pair a (by_rule h)) (by_rule k)))))) = aggregate_of_token (shaped IsAggregator aggregate_at aggregate_shape a) (a_token a) h k
means g.Operand _ _ _ (by_right (by_right (by_right (by_right (by_pair a (by_rule k)))))) = unnamed_of (matcher_list_of false a) k
means g.Labels _ _ _ (by_left (by_pair a (by_rule h))) = name_and_more (shaped IsWord (label_at false) (label_shape false) a) (a_token a) h
means g.Labels _ _ _ (by_right by_nothing) = no_names
means g.MoreLabels _ _ _ (by_left (by_pair a (by_rule h))) = comma_names (a_token a) h
means g.MoreLabels _ _ _ (by_right by_nothing) = are_more more_here
means (g.Matchers named) _ _ _ (by_left a) = matcher_of named a
means (g.Matchers named) _ _ _ (by_right by_nothing) = no_matchers
means (g.MoreMatchers named) _ _ _ (by_left (by_pair a (by_rule h))) = comma_matchers named (a_token a) h
means (g.MoreMatchers named) _ _ _ (by_right by_nothing) = are_more_matchers (matchers_here named)
means g.Braced _ _ _ (by_left a) = braced_of (matcher_list_of true a)
means g.Braced _ _ _ (by_right by_nothing) = no_braces
means g.Selection _ _ _ (by_pair (by_rule h) (by_rule k)) = selecting_by h (after_shape k) k
means g.Tail _ _ _ (by_left (by_pair a (by_pair (by_pair (by_rule h) b) (by_rule k)))) = called_tail (a_token a) h (shaped IsAt (sign_at RightParen) (sign_shape RightParen) b) (a_token b) k
means g.Tail _ _ _ (by_right (by_rule h)) = is_selected h
means g.Arguments _ _ _ (by_left (by_fold (by_pair by_nothing (by_rule (is_part {t = t} h))) d)) = some_of h (argument_turns (more none t) d)
means g.Arguments _ _ _ (by_right by_nothing) = are_arguments (is_right is_nothing)
means g.Aggregation _ _ _ (by_left (by_pair a b)) = before_of (group_of a) (parameters_of b)
means g.Aggregation _ _ _ (by_right (by_pair a (by_left b))) = after_of (parameters_of a) (group_of b)
means g.Aggregation _ _ _ (by_right (by_pair a (by_right by_nothing))) = after_none (parameters_of a)
means g.Parameters _ _ _ (by_pair (by_rule h) (by_left (by_pair a (by_rule k)))) = two_of h (a_token a) k
means g.Parameters _ _ _ (by_pair (by_rule h) (by_right by_nothing)) = one_of h
means (g.After Selectors) _ _ _ (by_left (by_pair a (by_rule h))) = selector_of_range (a_token a) h
means (g.After Selectors) _ _ _ (by_right (by_left (by_pair a (by_rule h)))) = no_range (offset_of (a_token a) h)
means (g.After Selectors) _ _ _ (by_right (by_right by_nothing)) = no_range (tail_range no_subquery)
means (g.After Ranges) _ _ _ (by_left (by_pair a (by_rule h))) = offset_of (a_token a) h
means (g.After Ranges) _ _ _ (by_right (by_rule h)) = tail_range h
means (g.After Others) _ _ _ (by_left (by_pair a (by_rule h))) = tail_of (a_token a) h
means (g.After Others) _ _ _ (by_right by_nothing) = no_subquery
means g.InSelector _ _ _ (by_pair a (by_rule h)) = span_end_of (shaped IsLasting span_at span_shape a) (a_token a) h
means g.SelectorSpan _ _ _ (by_left (by_pair a (by_rule h))) = range_closed_of (shaped IsAt (sign_at RightBracket) (sign_shape RightBracket) a) (a_token a) h
means g.SelectorSpan _ _ _ (by_right (by_pair a (by_rule h))) = colon_step (a_token a) h
means g.InOther _ _ _ (by_pair a (by_pair b (by_rule h))) = sub_of (shaped IsLasting span_at span_shape a) (a_token a) (a_token b) h
means g.Step _ _ _ (by_left (by_pair a (by_rule h))) = step_of (shaped IsLasting span_at span_shape a) (a_token a) h
means g.Step _ _ _ (by_right (by_rule h)) = no_step h
means g.Closing _ _ _ (by_pair a (by_rule h)) = closing_of (shaped IsAt (sign_at RightBracket) (sign_shape RightBracket) a) (a_token a) h
means g.Shift _ _ _ (by_pair a (by_rule h)) = shifted_of (shaped IsLasting shift_at shift_shape a) (a_token a) h

part_reading : {f : PF} {p : Place} {t : Tree} {ts rest : List Seen} → IsPart f ts (part p t) rest → RV f ts (part p t) rest
part_reading (is_part h) = h

pub to_plain : (ts : List Seen) (p : Place) (t : Tree) → Reads production (rule expression) ts (part p t) [] → Reads plain (rule (Expr true)) ts (given (part p t)) []
to_plain ts p t d = part_reading (ruled (by_lists production Means means d))

plainly_part : {v : QueryValue} {ts : List Seen} → IsPart (rule (Expr true)) ts v [] → (m : Meaning) × Reads plain (rule (Expr true)) ts m []
plainly_part (is_part {p = p} {t = t} h) = (given (part p t), h)

pub plainly_read : (ts : List Seen) (v : QueryValue) → Reads production (rule expression) ts v [] → (m : Meaning) × Reads plain (rule (Expr true)) ts m []
plainly_read ts v d = plainly_part (ruled (by_lists production Means means d))
