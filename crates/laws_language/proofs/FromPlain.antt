-- What the plain grammar reads is read by the split one.
use Rattle.std.proofs.Common.{◌≡◌, ℕ, Option, Some, None, Bool, true, false, List, [], ◌∷◌, ◌++◌, refl, ap, sym, ◌∙◌, subst, append_assoc}
use Rattle.std.specs.Prelude.{◌||◌, option_map, is_some, if◌then◌else◌}
use Rattle.std.proofs.lemmas.List.{append-nil}
use Rattle.pr_forms.specs.Form.{token, pair, turns, rule, Reads, is_token, is_nothing, is_pair, is_left, is_right, is_stop, is_turn, is_fold, is_rule}
use Rattle.pr_ast.specs.declared.lex.token.Sign.{Sign}
use Rattle.pr_ast.specs.declared.lex.token.Sign.TheVariants.{LeftBrace, RightBrace, LeftParen, RightParen, LeftBracket, RightBracket, Comma, Colon}
use Rattle.pr_ast.specs.declared.lex.token.Token.{Token}
use Rattle.pr_ast.specs.declared.lex.words.Word.TheVariants.{Bool as BoolWord, Offset}
use Rattle.pr_labels.specs.declared.grouping.Grouping.{Grouping}
use Rattle.pr_labels.specs.declared.matching.Matching.{Matching}
use Rattle.pr_ast.specs.declared.place.Place.{Place}
use Rattle.pr_ast.specs.declared.selector.MatchText.{MatchText}
use Rattle.pr_ast.specs.declared.names.Func.{Func}
use Rattle.pr_ast.specs.declared.names.BinOp.{BinOp}
use Rattle.pr_ast.specs.Tree.{Tree, sub, none}
use Rattle.pr_parse.specs.declared.grammar.kind.TokenClass.{TokenClass}
use Rattle.pr_parse.specs.declared.grammar.kind.Level.{Level}
use Rattle.pr_parse.specs.declared.grammar.kind.Level.TheVariants as level
use Rattle.pr_parse.specs.declared.grammar.kind.Before.TheVariants.{Selector as Selectors, Range as Ranges, Other as Others}
use Rattle.pr_parse.specs.Seen.{Seen, lexed, place_of}
use Rattle.pr_parse.specs.Grammar as g
use Rattle.pr_parse.specs.Grammar.{QueryValue, Rule, F, Suffix, in_range, in_subquery, by_offset, part, at, word, lasting, quoted, operation, operand, turn, matches, sided, included, grouped, signed, names, labels, match_sign, match_text, matchers, braced, bare, suffixes, ranged, stepped, selection, function, arguments, closed, called, aggregator, grouper, grouping, aggregation, production, expression, tighter, sign_at, word_at, operator_at, operator_of, matching_at, matching_of, grouping_at, grouping_of, minus_at, minus_of, side_at, side_of, match_at, match_of, aggregate_at, aggregate_of, function_at, function_of, label_at, is_label, metric_at, is_metric, literal_at, literal_of, text_at, is_text, span_at, is_span, shift_at, is_shift, span_of, text_of, is_sign, is_word, through, applied_to, selector_of, joined, right_side, next_argument, argument, some_arguments, label_list, matcher_list, matcher, group, parameters, applied, aggregation_made}
use Rattle.pr_parse.proofs.TokenValues.{IsAt, is_at, IsOperation, is_operation, IsSigned, is_signed, IsMatches, is_matches, IsGrouper, is_grouper, IsAggregator, is_aggregator, IsQuoted, is_quoted, IsMatchSign, is_match_sign}
use Rattle.laws_language.specs.private.Plain.{PlainRule, Expr, And, Cmp, Sum, Prod, Unary, Mods, BareMods, Labels, Postfix, Selector, Primary, Group, Braces, M, Meaning, given, absent, keyed, mods, PF, tok, sg, lift, optional, second, side_named, names_listed, matched_by, modified_by, right_operand, one_more_name, one_more_matcher, name_at, selector_named, selector_alone, matcher_made, call_made, one_after_another, below, side_after, right_sides, operations, names_part, matchers_part, range_part, offset_part, brackets_part, or_none, subquery_part, arguments_part, parameters_part, plain}
use Rattle.laws_language.proofs.ByLists.{Holds, by_token, by_nothing, by_pair, by_left, by_right, by_stop, by_turn, by_fold, by_rule, by_lists}
use Rattle.laws_language.proofs.ToPlain.{IsWord, is_a_word, IsFunction, is_function, IsSided, is_sided, IsLasting, is_lasting, IsLiteral, is_literal, sign_shape, word_shape, label_shape, function_shape, operator_shape, minus_shape, matching_shape, side_shape, grouping_shape, aggregate_shape, span_shape, shift_shape, text_shape, match_shape, literal_shape, next_name, next_matcher}

-- readings of the split grammar
abbrev RG : F → List Seen → QueryValue → List Seen → Type 0
RG f ts v rest = Reads production f ts v rest

-- What the meanings of rules are, with the readings of the split grammar for them.
data IsPart (f : F) : List Seen → Meaning → List Seen → Type 0 where
  is_part : {ts rest : List Seen} {p : Place} {t : Tree} → RG f ts (part p t) rest → IsPart f ts (given (part p t)) rest

-- modifiers, before a right side that may begin with a parenthesis or may not
data AreMods (o : Bool) : List Seen → Meaning → List Seen → Type 0 where
  are_mods : {ts mid : List Seen} {b : Bool} {m : Option Matching} → ((l : Level) (p : Place) (t : Tree) (rest : List Seen) → RG (rule (tighter l o)) mid (part p t) rest → RG (rule (g.Modified l)) ts (operand b m p t) rest) → AreMods o ts (mods b m) mid

data IsKeyed (o : Bool) : List Seen → Meaning → List Seen → Type 0 where
  is_keyed : {ts mid : List Seen} {m : Matching} → ((l : Level) (p : Place) (t : Tree) (rest : List Seen) → RG (rule (tighter l o)) mid (part p t) rest → RG (rule (g.Matched l)) ts (operand false (Some m) p t) rest) → IsKeyed o ts (keyed m) mid

data IsLabels : List Seen → Meaning → List Seen → Type 0 where
  is_labels : {ts rest : List Seen} {ns : List (List ℕ)} {q : Place} → RG label_list ts (labels ns q) rest → IsLabels ts (given (labels ns q)) rest

data IsSelector : List Seen → Meaning → List Seen → Type 0 where
  is_selector : {ts mid : List Seen} {p : Place} {t : Tree} → ((ss : List Suffix) (rest : List Seen) → RG (rule (g.After Selectors)) mid (suffixes ss) rest → RG (rule g.Operand) ts (applied_to p t ss) rest) → IsSelector ts (given (part p t)) mid

data IsPrimary (o : Bool) : List Seen → Meaning → List Seen → Type 0 where
  is_primary : {ts mid : List Seen} {p : Place} {t : Tree} → ((ss : List Suffix) (rest : List Seen) → RG (rule (g.After Others)) mid (suffixes ss) rest → RG (rule (g.Postfix o)) ts (applied_to p t ss) rest) → IsPrimary o ts (given (part p t)) mid

data IsGroup : List Seen → Meaning → List Seen → Type 0 where
  is_group : {ts rest : List Seen} {gr : Grouping} {p : Place} → RG group ts (grouping gr p) rest → IsGroup ts (given (grouping gr p)) rest

data IsBraces (named : Bool) : List Seen → Meaning → List Seen → Type 0 where
  is_braces : {ts rest : List Seen} {ms : List MatchText} {q : Place} → RG (matcher_list named) ts (braced ms q) rest → IsBraces named ts (given (braced ms q)) rest

data IsM (named : Bool) : List Seen → Meaning → List Seen → Type 0 where
  is_m : {ts mid : List Seen} {m : MatchText} → ((ns : List MatchText) (rest : List Seen) → RG (rule (g.MoreMatchers named)) mid (matchers ns) rest → RG (matcher named) ts (matchers (m ∷ ns)) rest) → IsM named ts (given (matchers (m ∷ []))) mid

-- What holds of the rules.
abbrev Means : PlainRule → List Seen → Meaning → List Seen → Type 0
Means (Expr p) ts m rest = IsPart (rule (g.Binary level.Or p)) ts m rest
Means (And p) ts m rest = IsPart (rule (g.Binary level.And p)) ts m rest
Means (Cmp p) ts m rest = IsPart (rule (g.Binary level.Comparison p)) ts m rest
Means (Sum p) ts m rest = IsPart (rule (g.Binary level.Sum p)) ts m rest
Means (Prod p) ts m rest = IsPart (rule (g.Binary level.Product p)) ts m rest
Means (Unary p) ts m rest = IsPart (rule (g.Unary p)) ts m rest
Means Mods ts m rest = AreMods true ts m rest
Means BareMods ts m rest = AreMods false ts m rest
Means Labels ts m rest = IsLabels ts m rest
Means (Postfix p) ts m rest = IsPart (rule (g.Postfix p)) ts m rest
Means Selector ts m rest = IsSelector ts m rest
Means (Primary p) ts m rest = IsPrimary p ts m rest
Means Group ts m rest = IsGroup ts m rest
Means (Braces named) ts m rest = IsBraces named ts m rest
Means (M named) ts m rest = IsM named ts m rest

abbrev H : PF → List Seen → Meaning → List Seen → Type 0
H f ts m rest = Holds Means f ts m rest

ruled : {n : PlainRule} {ts rest : List Seen} {m : Meaning} → H (rule n) ts m rest → Means n ts m rest
ruled (by_rule h) = h

record Sequence (c : Meaning → Meaning → Meaning) (f h : PF) (ts : List Seen) (m : Meaning) (rest : List Seen) : Type 0 where
  left : Meaning
  right : Meaning
  mid : List Seen
  fore : H f ts left mid
  aft : H h mid right rest
  is : c left right ≡ m

sequence : {c : Meaning → Meaning → Meaning} {f h : PF} {ts rest : List Seen} {m : Meaning} → H (pair c f h) ts m rest → Sequence c f h ts m rest
sequence (by_pair {mid = mid} {v = v} {w = w} a b) = record { left = v; right = w; mid = mid; fore = a; aft = b; is = refl }

-- tokens, with the shapes of their values
data IsTok (S : QueryValue → Type 0) (p : Seen → Option QueryValue) : List Seen → Meaning → List Seen → Type 0 where
  is_tok : {ts rest : List Seen} {v : QueryValue} → S v → RG (token p) ts v rest → IsTok S p ts (given v) rest

tok_given : (S : QueryValue → Type 0) (p : Seen → Option QueryValue) (t : Seen) (rest : List Seen) → ((v : QueryValue) → p t ≡ Some v → S v) → (o : Option QueryValue) (m : Meaning) → p t ≡ o → option_map given o ≡ Some m → IsTok S p (t ∷ rest) m rest
tok_given S p t rest s (Some v) m e h = let same : given v ≡ m = cc in subst (λ x. IsTok S p (t ∷ rest) x rest) same (is_tok (s v e) (is_token e))
tok_given S p t rest s None m e h = absurd (cc)

tok_of : (S : QueryValue → Type 0) (p : Seen → Option QueryValue) → ((t : Seen) (v : QueryValue) → p t ≡ Some v → S v) → {ts rest : List Seen} {m : Meaning} → H (tok p) ts m rest → IsTok S p ts m rest
tok_of S p s (by_token {t = t} {rest = rest} e) = tok_given S p t rest (s t) (p t) _ refl e

sign_of : (s : Sign) {ts rest : List Seen} {m : Meaning} → H (sg s) ts m rest → IsTok IsAt (sign_at s) ts m rest
sign_of s h = tok_of IsAt (sign_at s) (sign_shape s) h

-- operations
below_part : (l : Level) (p : Bool) {ts rest : List Seen} {m : Meaning} → Means (below l p) ts m rest → IsPart (rule (tighter l p)) ts m rest
below_part level.Or p h = h
below_part level.And p h = h
below_part level.Comparison p h = h
below_part level.Sum p h = h
below_part level.Product p h = h

data IsRight (l : Level) : List Seen → Meaning → List Seen → Type 0 where
  is_right_side : {ts rest : List Seen} {o : BinOp} {b : Bool} {m : Option Matching} {p : Place} {t : Tree} → RG (right_side l) ts (turn o b m p t) rest → IsRight l ts (given (turn o b m p t)) rest

right_made : (l : Level) (o : Bool) {u v w : Meaning} {ts mid next rest : List Seen} → IsTok IsOperation (operator_at l) ts u mid → AreMods o mid v next → IsPart (rule (tighter l o)) next w rest → IsRight l ts (lift g.turned u (right_operand v w)) rest
right_made l o (is_tok is_operation a) (are_mods f) (is_part {p = p} {t = t} h) = is_right_side (is_pair a (f l p t _ h))

right_by : (l : Level) (o : Bool) (n : PlainRule) → ((ts : List Seen) (m : Meaning) (rest : List Seen) → Means n ts m rest → AreMods o ts m rest) → {ts rest : List Seen} {m : Meaning} → H (side_after l n o) ts m rest → IsRight l ts m rest
right_by l o n f {ts} {rest} h =
    let s = sequence h in let t = sequence s.aft in
    subst (λ m. IsRight l ts m rest) s.is (subst (λ m. IsRight l ts (lift g.turned s.left m) rest) t.is
    (right_made l o (tok_of IsOperation (operator_at l) (operator_shape l) s.fore) (f _ _ _ (ruled t.fore)) (below_part l o (ruled t.aft))))

right_of : (l : Level) (ts : List Seen) (m : Meaning) (rest : List Seen) → H (right_sides l) ts m rest → IsRight l ts m rest
right_of l ts m rest (by_left h) = right_by l true Mods (λ ts m rest k. k) h
right_of l ts m rest (by_right h) = right_by l false BareMods (λ ts m rest k. k) h

data IsState : Meaning → Type 0 where
  is_state : {p : Place} {t : Tree} → IsState (given (part p t))

joined_state : (l : Level) {v w : Meaning} {ts rest : List Seen} → IsState v → IsRight l ts w rest → IsState (lift joined v w)
joined_state l is_state (is_right_side h) = is_state

data Ends (l : Level) : Meaning → List Seen → Meaning → List Seen → Type 0 where
  ends : {ts rest : List Seen} {p q : Place} {t u : Tree} → RG (turns joined (part p t) (right_side l)) ts (part q u) rest → Ends l (given (part p t)) ts (given (part q u)) rest

one_turn : (l : Level) {v w m : Meaning} {ts mid rest : List Seen} → IsState v → IsRight l ts w mid → Ends l (lift joined v w) mid m rest → Ends l v ts m rest
one_turn l is_state (is_right_side a) (ends d) = ends (is_turn a d)

turns_of : (l : Level) (h : PF) → ((ts : List Seen) (m : Meaning) (rest : List Seen) → H h ts m rest → IsRight l ts m rest) → {v m : Meaning} {ts rest : List Seen} → IsState v → H (turns (lift joined) v h) ts m rest → Ends l v ts m rest
turns_of l h conv is_state by_stop = ends is_stop
turns_of l h conv (is_state {p = p} {t = t}) (by_turn a d) = let r = conv _ _ _ a in one_turn l (is_state {p = p} {t = t}) r (turns_of l h conv (joined_state l (is_state {p = p} {t = t}) r) d)

folded : (l : Level) (p : Bool) {v m : Meaning} {ts mid rest : List Seen} → IsPart (rule (tighter l p)) ts v mid → Ends l v mid m rest → IsPart (rule (g.Binary l p)) ts m rest
folded l p (is_part a) (ends d) = is_part (is_rule (is_fold a d))

state_of : {f : F} {v : Meaning} {ts rest : List Seen} → IsPart f ts v rest → IsState v
state_of (is_part a) = is_state

operations_of : (l : Level) (p : Bool) {ts rest : List Seen} {m : Meaning} → H (operations l p) ts m rest → IsPart (rule (g.Binary l p)) ts m rest
operations_of l p (by_fold (by_rule h) d) = let b = below_part l p h in folded l p b (turns_of l (right_sides l) (right_of l) (state_of b) d)

-- modifiers
keyed_none : {u v : Meaning} {ts a b : List Seen} → IsTok IsMatches matching_at ts u a → IsLabels a v b → IsKeyed true ts (matched_by u (names_listed v absent)) b
keyed_none (is_tok is_matches i) (is_labels j) = is_keyed (λ l p t rest h. is_rule (is_left (is_pair i (is_pair j (is_rule (is_right (is_pair is_nothing h)))))))

keyed_side : {u v w x : Meaning} {ts a b c d : List Seen} → IsTok IsMatches matching_at ts u a → IsLabels a v b → IsTok IsSided side_at b w c → IsLabels c x d → IsKeyed true ts (matched_by u (names_listed v (side_named w x))) d
keyed_side (is_tok is_matches i) (is_labels j) (is_tok is_sided k) (is_labels m) = is_keyed (λ l p t rest h. is_rule (is_left (is_pair i (is_pair j (is_rule (is_left (is_pair k (is_rule (is_left (is_pair m h))))))))))

keyed_bare : {u v w : Meaning} {ts a b c : List Seen} → IsTok IsMatches matching_at ts u a → IsLabels a v b → IsTok IsSided side_at b w c → IsKeyed false ts (matched_by u (names_listed v w)) c
keyed_bare (is_tok is_matches i) (is_labels j) (is_tok is_sided k) = is_keyed (λ l p t rest h. is_rule (is_left (is_pair i (is_pair j (is_rule (is_left (is_pair k (is_rule (is_right (is_pair is_nothing h))))))))))

flagged : (o : Bool) {u v : Meaning} {ts a b : List Seen} → IsTok IsAt (word_at BoolWord) ts u a → IsKeyed o a v b → AreMods o ts (modified_by u v) b
flagged o (is_tok is_at i) (is_keyed f) = are_mods (λ l p t rest h. is_rule (is_left (is_pair i (f l p t rest h))))

flag_alone : {u : Meaning} {ts a : List Seen} → IsTok IsAt (word_at BoolWord) ts u a → AreMods true ts (modified_by u absent) a
flag_alone (is_tok is_at i) = are_mods (λ l p t rest h. is_rule (is_left (is_pair i (is_rule (is_right (is_pair is_nothing h))))))

unflagged : (o : Bool) {v : Meaning} {ts b : List Seen} → IsKeyed o ts v b → AreMods o ts (modified_by absent v) b
unflagged o (is_keyed f) = are_mods (λ l p t rest h. is_rule (is_right (f l p t rest h)))

no_mods : {ts : List Seen} → AreMods true ts (mods false None) ts
no_mods = are_mods (λ l p t rest h. is_rule (is_right (is_rule (is_right (is_pair is_nothing h)))))

-- names

record EndsNames (ms : List (List ℕ)) (ts : List Seen) (m : Meaning) (mid : List Seen) : Type 0 where
  ns : List (List ℕ)
  is : m ≡ given (names (ms ++ ns))
  goes : (rest : List Seen) → RG (rule g.MoreLabels) mid (names []) rest → RG (rule g.MoreLabels) ts (names ns) rest

one_name : (ms : List (List ℕ)) {c w m : Meaning} {ts a mid next : List Seen} → IsTok IsAt (sign_at Comma) ts c a → IsTok IsWord (label_at false) a w mid → ((n : List ℕ) (p : Place) → w ≡ given (word p n) → EndsNames (ms ++ n ∷ []) mid m next) → EndsNames ms ts m next
one_name ms (is_tok is_at i) (is_tok (is_a_word {p = p} {n = n}) j) f = let e = f n p refl in record {
  ns = n ∷ e.ns;
  is = e.is ∙ ap (λ us. given (names us)) (append_assoc ms (n ∷ []) e.ns);
  goes = λ rest h. is_rule (is_left (is_pair i (is_rule (is_left (is_pair j (e.goes rest h))))));
}

names_turns : (ms : List (List ℕ)) {v m : Meaning} {ts mid : List Seen} → v ≡ given (names ms) → H (turns one_more_name v next_name) ts m mid → EndsNames ms ts m mid
names_turns ms e by_stop = record { ns = []; is = e ∙ ap (λ us. given (names us)) (sym (append-nil ms)); goes = λ rest h. h }
names_turns ms e (by_turn (by_pair {w = u} a b) d) =
    one_name ms (sign_of Comma a) (tok_of IsWord (label_at false) (label_shape false) b) (λ n p w. names_turns (ms ++ n ∷ []) (ap (λ x. one_more_name x u) e ∙ ap (λ x. one_more_name (given (names ms)) x) w) d)

last_comma : {m : Meaning} {ts rest : List Seen} → H (optional (sg Comma)) ts m rest → RG (rule g.MoreLabels) ts (names []) rest
last_comma (by_left a) = comma_last (sign_of Comma a)
  where
    comma_last : {m : Meaning} {ts rest : List Seen} → IsTok IsAt (sign_at Comma) ts m rest → RG (rule g.MoreLabels) ts (names []) rest
    comma_last (is_tok is_at i) = is_rule (is_left (is_pair i (is_rule (is_right is_nothing))))
last_comma (by_right by_nothing) = is_rule (is_right is_nothing)

data AreNames : List Seen → Meaning → List Seen → Type 0 where
  are_names : {ts rest : List Seen} {ns : List (List ℕ)} → RG (rule g.Labels) ts (names ns) rest → AreNames ts (given (names ns)) rest

first_name : {w m : Meaning} {ts a mid rest : List Seen} → IsTok IsWord (label_at false) ts w a → ((n : List ℕ) (p : Place) → w ≡ given (word p n) → EndsNames (n ∷ []) a m mid) → RG (rule g.MoreLabels) mid (names []) rest → AreNames ts m rest
first_name {ts = ts} {rest = rest} (is_tok (is_a_word {p = p} {n = n}) i) f c = let e = f n p refl in subst (λ x. AreNames ts x rest) (sym e.is) (are_names (is_rule (is_left (is_pair i (e.goes rest c)))))

names_of : {m : Meaning} {ts rest : List Seen} → H names_part ts m rest → AreNames ts m rest
names_of (by_right by_nothing) = are_names (is_rule (is_right is_nothing))
names_of (by_left (by_pair (by_fold (by_pair by_nothing a) d) c)) =
    first_name (tok_of IsWord (label_at false) (label_shape false) a) (λ n p w. names_turns (n ∷ []) (ap (λ x. one_more_name (given (names [])) x) w) d) (last_comma c)

labels_made : {u v w : Meaning} {ts a b rest : List Seen} → IsTok IsAt (sign_at LeftParen) ts u a → AreNames a v b → IsTok IsAt (sign_at RightParen) b w rest → IsLabels ts (lift g.names_closed v w) rest
labels_made (is_tok is_at i) (are_names j) (is_tok is_at k) = is_labels (is_pair i (is_pair j k))

-- matchers

record EndsMatchers (named : Bool) (ms : List MatchText) (ts : List Seen) (m : Meaning) (mid : List Seen) : Type 0 where
  ns : List MatchText
  is : m ≡ given (matchers (ms ++ ns))
  goes : (rest : List Seen) → RG (rule (g.MoreMatchers named)) mid (matchers []) rest → RG (rule (g.MoreMatchers named)) ts (matchers ns) rest

one_matcher : (named : Bool) (ms : List MatchText) {c w m : Meaning} {ts a mid next : List Seen} → IsTok IsAt (sign_at Comma) ts c a → IsM named a w mid → ((n : MatchText) → w ≡ given (matchers (n ∷ [])) → EndsMatchers named (ms ++ n ∷ []) mid m next) → EndsMatchers named ms ts m next
one_matcher named ms (is_tok is_at i) (is_m {m = n} j) f = let e = f n refl in record {
  ns = n ∷ e.ns;
  is = e.is ∙ ap (λ us. given (matchers us)) (append_assoc ms (n ∷ []) e.ns);
  goes = λ rest h. is_rule (is_left (is_pair i (is_rule (is_left (j e.ns rest (e.goes rest h))))));
}

matchers_turns : (named : Bool) (ms : List MatchText) {v m : Meaning} {ts mid : List Seen} → v ≡ given (matchers ms) → H (turns one_more_matcher v (next_matcher named)) ts m mid → EndsMatchers named ms ts m mid
matchers_turns named ms e by_stop = record { ns = []; is = e ∙ ap (λ us. given (matchers us)) (sym (append-nil ms)); goes = λ rest h. h }
matchers_turns named ms e (by_turn (by_pair {w = u} a (by_rule b)) d) =
    one_matcher named ms (sign_of Comma a) b (λ n w. matchers_turns named (ms ++ n ∷ []) (ap (λ x. one_more_matcher x u) e ∙ ap (λ x. one_more_matcher (given (matchers ms)) x) w) d)

data AreMatchers (named : Bool) : List Seen → Meaning → List Seen → Type 0 where
  are_matchers : {ts rest : List Seen} {ms : List MatchText} → RG (rule (g.Matchers named)) ts (matchers ms) rest → AreMatchers named ts (given (matchers ms)) rest

last_matcher : (named : Bool) {m : Meaning} {ts rest : List Seen} → H (optional (sg Comma)) ts m rest → RG (rule (g.MoreMatchers named)) ts (matchers []) rest
last_matcher named (by_left a) = comma_last (sign_of Comma a)
  where
    comma_last : {m : Meaning} {ts rest : List Seen} → IsTok IsAt (sign_at Comma) ts m rest → RG (rule (g.MoreMatchers named)) ts (matchers []) rest
    comma_last (is_tok is_at i) = is_rule (is_left (is_pair i (is_rule (is_right is_nothing))))
last_matcher named (by_right by_nothing) = is_rule (is_right is_nothing)

first_matcher : (named : Bool) {w m : Meaning} {ts a mid rest : List Seen} → IsM named ts w a → ((n : MatchText) → w ≡ given (matchers (n ∷ [])) → EndsMatchers named (n ∷ []) a m mid) → RG (rule (g.MoreMatchers named)) mid (matchers []) rest → AreMatchers named ts m rest
first_matcher named {ts = ts} {rest = rest} (is_m {m = n} j) f c = let e = f n refl in subst (λ x. AreMatchers named ts x rest) (sym e.is) (are_matchers (is_rule (is_left (j e.ns rest (e.goes rest c)))))

matchers_of : (named : Bool) {m : Meaning} {ts rest : List Seen} → H (matchers_part named) ts m rest → AreMatchers named ts m rest
matchers_of named (by_right by_nothing) = are_matchers (is_rule (is_right is_nothing))
matchers_of named (by_left (by_pair (by_fold (by_rule a) d) c)) = first_matcher named a (λ n w. matchers_turns named (n ∷ []) w d) (last_matcher named c)

braces_made : (named : Bool) {u v w : Meaning} {ts a b rest : List Seen} → IsTok IsAt (sign_at LeftBrace) ts u a → AreMatchers named a v b → IsTok IsAt (sign_at RightBrace) b w rest → IsBraces named ts (lift g.matchers_opened u (lift g.matchers_closed v w)) rest
braces_made named (is_tok is_at i) (are_matchers j) (is_tok is_at k) = is_braces (is_pair i (is_pair j k))

braces_of : (named : Bool) {m : Meaning} {ts rest : List Seen} → H (plain (Braces named)) ts m rest → IsBraces named ts m rest
braces_of named {ts = ts} {rest = rest} h =
    let s = sequence h in let t = sequence s.aft in
    subst (λ m. IsBraces named ts m rest) s.is (subst (λ m. IsBraces named ts (lift g.matchers_opened s.left m) rest) t.is (braces_made named (sign_of LeftBrace s.fore) (matchers_of named t.fore) (sign_of RightBrace t.aft)))

m_made : (named : Bool) {u v w : Meaning} {ts a b rest : List Seen} → IsTok IsWord (label_at named) ts u a → IsTok IsMatchSign match_at a v b → IsTok IsQuoted text_at b w rest → IsM named ts (lift matcher_made u (lift g.match_of_text v w)) rest
m_made named (is_tok is_a_word i) (is_tok is_match_sign j) (is_tok is_quoted k) = is_m (λ ns rest h. is_pair i (is_pair (is_pair j k) h))

m_of : (named : Bool) {m : Meaning} {ts rest : List Seen} → H (plain (M named)) ts m rest → IsM named ts m rest
m_of named {ts = ts} {rest = rest} h =
    let s = sequence h in let t = sequence s.aft in
    subst (λ m. IsM named ts m rest) s.is (subst (λ m. IsM named ts (lift matcher_made s.left m) rest) t.is
    (m_made named (tok_of IsWord (label_at named) (label_shape named) s.fore) (tok_of IsMatchSign match_at match_shape t.fore) (tok_of IsQuoted text_at text_shape t.aft)))

-- what follows a primary: the offset of a subquery or selector, a range, and subqueries
abbrev AfterOthers : List Seen → List Suffix → List Seen → Type 0
AfterOthers ts ss rest = RG (rule (g.After Others)) ts (suffixes ss) rest

data IsOffset : List Seen → Meaning → List Seen → Type 0 where
  no_offset : {ts : List Seen} → IsOffset ts (given (suffixes [])) ts
  an_offset : {ts mid : List Seen} {d : ℕ} {q : Place} → ((ss : List Suffix) (rest : List Seen) → AfterOthers mid ss rest → RG (pair g.second_of (g.the_word Offset) (rule g.Shift)) ts (suffixes (by_offset d q ∷ ss)) rest) → IsOffset ts (given (suffixes (by_offset d q ∷ []))) mid

offset_made : {u v : Meaning} {ts a mid : List Seen} → IsTok IsAt (word_at Offset) ts u a → IsTok IsLasting shift_at a v mid → IsOffset ts (lift g.shifted v (given (suffixes []))) mid
offset_made (is_tok is_at i) (is_tok is_lasting j) = an_offset (λ ss rest h. is_pair i (is_rule (is_pair j h)))

offset_of : {m : Meaning} {ts mid : List Seen} → H (or_none offset_part) ts m mid → IsOffset ts m mid
offset_of (by_left (by_pair a (by_pair b by_nothing))) = offset_made (tok_of IsAt (word_at Offset) (word_shape Offset) a) (tok_of IsLasting shift_at shift_shape b)
offset_of (by_right by_nothing) = no_offset

-- a subquery with its offset
data IsSub : List Seen → Meaning → List Seen → Type 0 where
  sub_alone : {ts mid : List Seen} {d : ℕ} {step : Option ℕ} {q : Place} → ((ss : List Suffix) (rest : List Seen) → AfterOthers mid ss rest → AfterOthers ts (in_subquery d step q ∷ ss) rest) → IsSub ts (given (suffixes (in_subquery d step q ∷ []))) mid
  sub_moved : {ts mid : List Seen} {d e : ℕ} {step : Option ℕ} {q r : Place} → ((ss : List Suffix) (rest : List Seen) → AfterOthers mid ss rest → AfterOthers ts (in_subquery d step q ∷ by_offset e r ∷ ss) rest) → IsSub ts (given (suffixes (in_subquery d step q ∷ by_offset e r ∷ []))) mid

abbrev AfterRanges : List Seen → List Suffix → List Seen → Type 0
AfterRanges ts ss rest = RG (rule (g.After Ranges)) ts (suffixes ss) rest

-- the brackets of a subquery, before an offset and more
data IsBrackets : List Seen → Meaning → List Seen → Type 0 where
  are_brackets : {ts mid : List Seen} {d : ℕ} {step : Option ℕ} {q : Place} → ((ss : List Suffix) (rest : List Seen) → AfterRanges mid ss rest → AfterOthers ts (in_subquery d step q ∷ ss) rest) → IsBrackets ts (given (suffixes (in_subquery d step q ∷ []))) mid

data IsStepped (n : Rule) : List Seen → Meaning → List Seen → Type 0 where
  is_stepped : {ts mid : List Seen} {step : Option ℕ} {q : Place} → ((ss : List Suffix) (rest : List Seen) → AfterRanges mid ss rest → RG (rule n) ts (stepped step q ss) rest) → IsStepped n ts (given (stepped step q [])) mid

closing_made : {u : Meaning} {ts mid : List Seen} → IsTok IsAt (sign_at RightBracket) ts u mid → IsStepped g.Closing ts (lift g.step_closed u (given (suffixes []))) mid
closing_made (is_tok is_at i) = is_stepped (λ ss rest h. is_rule (is_pair i h))

step_made : {u v : Meaning} {ts a mid : List Seen} → IsTok IsLasting span_at ts u a → IsStepped g.Closing a v mid → IsStepped g.Step ts (lift g.with_step u v) mid
step_made (is_tok is_lasting i) (is_stepped f) = is_stepped (λ ss rest h. is_rule (is_left (is_pair i (f ss rest h))))

step_none : {v : Meaning} {ts mid : List Seen} → IsStepped g.Closing ts v mid → IsStepped g.Step ts v mid
step_none (is_stepped f) = is_stepped (λ ss rest h. is_rule (is_right (f ss rest h)))

brackets_made : {u v c w : Meaning} {ts a b d mid : List Seen} → IsTok IsAt (sign_at LeftBracket) ts u a → IsTok IsLasting span_at a v b → IsTok IsAt (sign_at Colon) b c d → IsStepped g.Step d w mid → IsBrackets ts (lift g.bracketed v w) mid
brackets_made (is_tok is_at i) (is_tok is_lasting j) (is_tok is_at k) (is_stepped f) = are_brackets (λ ss rest h. is_rule (is_left (is_pair i (is_rule (is_pair j (is_pair k (f ss rest h)))))))

brackets_of : {m : Meaning} {ts mid : List Seen} → H brackets_part ts m mid → IsBrackets ts m mid
brackets_of (by_pair a (by_pair b (by_pair c (by_left (by_pair d (by_pair e by_nothing)))))) =
    brackets_made (sign_of LeftBracket a) (tok_of IsLasting span_at span_shape b) (sign_of Colon c) (step_made (tok_of IsLasting span_at span_shape d) (closing_made (sign_of RightBracket e)))
brackets_of (by_pair a (by_pair b (by_pair c (by_right (by_pair e by_nothing))))) =
    brackets_made (sign_of LeftBracket a) (tok_of IsLasting span_at span_shape b) (sign_of Colon c) (step_none (closing_made (sign_of RightBracket e)))

sub_made : {u v : Meaning} {ts a mid : List Seen} → IsBrackets ts u a → IsOffset a v mid → IsSub ts (one_after_another u v) mid
sub_made (are_brackets f) no_offset = sub_alone (λ ss rest h. f ss rest (is_rule (is_right h)))
sub_made (are_brackets f) (an_offset k) = sub_moved (λ ss rest h. f _ rest (is_rule (is_left (k ss rest h))))

sub_of : {m : Meaning} {ts mid : List Seen} → H subquery_part ts m mid → IsSub ts m mid
sub_of (by_pair a b) = sub_made (brackets_of a) (offset_of b)

-- subqueries one after another
record EndsSubs (v : Meaning) (ts : List Seen) (m : Meaning) (rest : List Seen) : Type 0 where
  ss : List Suffix
  is : m ≡ lift applied v (given (suffixes ss))
  reads : AfterOthers ts ss rest

sub_state : {v w : Meaning} {ts mid : List Seen} → IsState v → IsSub ts w mid → IsState (lift applied v w)
sub_state is_state (sub_alone f) = is_state
sub_state is_state (sub_moved f) = is_state

one_sub : {v w m : Meaning} {ts mid rest : List Seen} → IsState v → IsSub ts w mid → EndsSubs (lift applied v w) mid m rest → EndsSubs v ts m rest
one_sub is_state (sub_alone f) e = record { ss = _; is = e.is; reads = f e.ss _ e.reads }
one_sub is_state (sub_moved f) e = record { ss = _; is = e.is; reads = f e.ss _ e.reads }

subs_end : {v : Meaning} {ts : List Seen} → IsState v → EndsSubs v ts v ts
subs_end is_state = record { ss = []; is = refl; reads = is_rule (is_right is_nothing) }

subs_of : {v m : Meaning} {ts rest : List Seen} → IsState v → H (turns (lift applied) v subquery_part) ts m rest → EndsSubs v ts m rest
subs_of (is_state {p = p} {t = t}) by_stop = subs_end (is_state {p = p} {t = t})
subs_of (is_state {p = p} {t = t}) (by_turn a d) = let r = sub_of a in one_sub (is_state {p = p} {t = t}) r (subs_of (sub_state (is_state {p = p} {t = t}) r) d)

-- a primary with its subqueries
applied_shape : (p : Place) (t : Tree) (ss : List Suffix) → (q : Place) × ((u : Tree) × (applied_to p t ss ≡ part q u))
applied_shape p t [] = (p, (t, refl))
applied_shape p t (in_range d q ∷ ss) = applied_shape (through p q) (g.range_made (through p q) d t) ss
applied_shape p t (in_subquery d step q ∷ ss) = applied_shape (through p q) (sub (through p q) t d step 0) ss
applied_shape p t (by_offset d q ∷ ss) = applied_shape (through p q) (g.offset_set (through p q) d t) ss

part_made : (f : F) (p : Place) (t : Tree) (ss : List Suffix) {m : Meaning} {ts rest : List Seen} → m ≡ given (applied_to p t ss) → RG f ts (applied_to p t ss) rest → IsPart f ts m rest
part_made f p t ss {ts = ts} {rest = rest} e h =
    let x = applied_shape p t ss in
    subst (λ m. IsPart f ts m rest) (ap given (sym x.1.1) ∙ sym e) (is_part (subst (λ v. RG f ts v rest) x.1.1 h))

primary_state : {o : Bool} {v : Meaning} {ts mid : List Seen} → IsPrimary o ts v mid → IsState v
primary_state (is_primary f) = is_state

primary_end : (o : Bool) {v m : Meaning} {ts mid rest : List Seen} → IsPrimary o ts v mid → EndsSubs v mid m rest → IsPart (rule (g.Postfix o)) ts m rest
primary_end o (is_primary {p = p} {t = t} f) e = part_made (rule (g.Postfix o)) p t e.ss e.is (f e.ss _ e.reads)

-- a selector with its range, offset and subqueries
others_selectors : {v : QueryValue} {ts rest : List Seen} → RG (rule (g.After Others)) ts v rest → RG (rule (g.After Selectors)) ts v rest
others_selectors (is_rule (is_left (is_pair a (is_rule (is_pair b (is_pair c d)))))) = is_rule (is_left (is_pair a (is_rule (is_pair b (is_rule (is_right (is_pair c d)))))))
others_selectors (is_rule (is_right is_nothing)) = is_rule (is_right (is_right is_nothing))

data IsRange : List Seen → Meaning → List Seen → Type 0 where
  no_range : {ts : List Seen} → IsRange ts (given (suffixes [])) ts
  a_range : {ts mid : List Seen} {d : ℕ} {q : Place} → ((ss : List Suffix) (rest : List Seen) → AfterRanges mid ss rest → RG (rule (g.After Selectors)) ts (suffixes (in_range d q ∷ ss)) rest) → IsRange ts (given (suffixes (in_range d q ∷ []))) mid

range_made_of : {u v w : Meaning} {ts a b mid : List Seen} → IsTok IsAt (sign_at LeftBracket) ts u a → IsTok IsLasting span_at a v b → IsTok IsAt (sign_at RightBracket) b w mid → IsRange ts (lift g.bracketed v (lift g.range_closed w (given (suffixes [])))) mid
range_made_of (is_tok is_at i) (is_tok is_lasting j) (is_tok is_at k) = a_range (λ ss rest h. is_rule (is_left (is_pair i (is_rule (is_pair j (is_rule (is_left (is_pair k h))))))))

range_of : {m : Meaning} {ts mid : List Seen} → H (or_none range_part) ts m mid → IsRange ts m mid
range_of (by_left (by_pair a (by_pair b (by_pair c by_nothing)))) = range_made_of (sign_of LeftBracket a) (tok_of IsLasting span_at span_shape b) (sign_of RightBracket c)
range_of (by_right by_nothing) = no_range

selector_state : {u v w : Meaning} {ts a b c : List Seen} → IsSelector ts u a → IsRange a v b → IsOffset b w c → IsState (lift applied (lift applied u v) w)
selector_state (is_selector f) no_range no_offset = is_state
selector_state (is_selector f) no_range (an_offset k) = is_state
selector_state (is_selector f) (a_range h) no_offset = is_state
selector_state (is_selector f) (a_range h) (an_offset k) = is_state

postfix_of : (o : Bool) {v : QueryValue} {ts rest : List Seen} → RG (rule g.Operand) ts v rest → RG (rule (g.Postfix o)) ts v rest
postfix_of true h = is_rule (is_right h)
postfix_of false h = is_rule h

selector_end : (o : Bool) {u v w m : Meaning} {ts a b c rest : List Seen} → IsSelector ts u a → IsRange a v b → IsOffset b w c → EndsSubs (lift applied (lift applied u v) w) c m rest → IsPart (rule (g.Postfix o)) ts m rest
selector_end o (is_selector {p = p} {t = t} f) no_range no_offset e = part_made (rule (g.Postfix o)) p t e.ss e.is (postfix_of o (f e.ss _ (others_selectors e.reads)))
selector_end o (is_selector {p = p} {t = t} f) no_range (an_offset {d = d} {q = q} k) e = part_made (rule (g.Postfix o)) p t (by_offset d q ∷ e.ss) e.is (postfix_of o (f _ _ (is_rule (is_right (is_left (k e.ss _ e.reads))))))
selector_end o (is_selector {p = p} {t = t} f) (a_range {d = d} {q = q} h) no_offset e = part_made (rule (g.Postfix o)) p t (in_range d q ∷ e.ss) e.is (postfix_of o (f _ _ (h e.ss _ (is_rule (is_right e.reads)))))
selector_end o (is_selector {p = p} {t = t} f) (a_range {d = d} {q = q} h) (an_offset {d = c} {q = r} k) e = part_made (rule (g.Postfix o)) p t (in_range d q ∷ by_offset c r ∷ e.ss) e.is (postfix_of o (f _ _ (h _ _ (is_rule (is_left (k e.ss _ e.reads))))))

postfix_made : (o : Bool) {m : Meaning} {ts rest : List Seen} → H (plain (Postfix o)) ts m rest → IsPart (rule (g.Postfix o)) ts m rest
postfix_made o (by_left (by_fold (by_pair (by_pair (by_rule h) r) f) d)) = let a = range_of r in let b = offset_of f in selector_end o h a b (subs_of (selector_state h a b) d)
postfix_made o (by_right (by_fold (by_rule h) d)) = primary_end o h (subs_of (primary_state h) d)

-- selectors
data IsNameToken : List Seen → Meaning → List Seen → Type 0 where
  by_metric : {ts rest : List Seen} {p : Place} {n : List ℕ} → RG (token metric_at) ts (word p n) rest → IsNameToken ts (given (word p n)) rest
  by_function : {ts rest : List Seen} {f : Func} {p : Place} {n : List ℕ} → RG (token function_at) ts (function f p n) rest → IsNameToken ts (given (word p n)) rest

name_by : (k : TokenClass) (x : Token) (rest : List Seen) (m : Meaning) (b : Bool) (o : Option Func) → is_metric k ≡ b → function_of k ≡ o →
    option_map given (if b || is_some o then Some (word (place_of x) (text_of x.kind)) else None) ≡ Some m → IsNameToken (lexed k x ∷ rest) m rest
name_by k x rest m true o h i e = let same : given (word (place_of x) (text_of x.kind)) ≡ m = cc in subst (λ m. IsNameToken (lexed k x ∷ rest) m rest) same (by_metric (is_token (ap (λ (c : Bool). if c then Some (word (place_of x) (text_of x.kind)) else None) h)))
name_by k x rest m false (Some f) h i e = let same : given (word (place_of x) (text_of x.kind)) ≡ m = cc in subst (λ m. IsNameToken (lexed k x ∷ rest) m rest) same (by_function (is_token (ap (option_map (λ f. function f (place_of x) (text_of x.kind))) i)))
name_by k x rest m false None h i e = absurd (cc)

name_here : (t : Seen) (rest : List Seen) (m : Meaning) → option_map given (name_at t) ≡ Some m → IsNameToken (t ∷ rest) m rest
name_here (lexed k x) rest m e = name_by k x rest m (is_metric k) (function_of k) refl refl e

name_of : {m : Meaning} {ts rest : List Seen} → H (tok name_at) ts m rest → IsNameToken ts m rest
name_of (by_token {t = t} {rest = rest} e) = name_here t rest _ e

named_alone : {u : Meaning} {ts a : List Seen} → IsNameToken ts u a → IsSelector ts (selector_named u absent) a
named_alone (by_metric i) = is_selector (λ ss rest r. is_rule (is_right (is_left (is_pair i (is_rule (is_pair (is_rule (is_right is_nothing)) r))))))
named_alone (by_function i) = is_selector (λ ss rest r. is_rule (is_right (is_right (is_left (is_pair i (is_rule (is_right (is_rule (is_pair (is_rule (is_right is_nothing)) r)))))))))

named_braces : {u v : Meaning} {ts a b : List Seen} → IsNameToken ts u a → IsBraces true a v b → IsSelector ts (selector_named u v) b
named_braces (by_metric i) (is_braces j) = is_selector (λ ss rest r. is_rule (is_right (is_left (is_pair i (is_rule (is_pair (is_rule (is_left j)) r))))))
named_braces (by_function i) (is_braces j) = is_selector (λ ss rest r. is_rule (is_right (is_right (is_left (is_pair i (is_rule (is_right (is_rule (is_pair (is_rule (is_left j)) r)))))))))

unnamed_braces : {v : Meaning} {ts b : List Seen} → IsBraces false ts v b → IsSelector ts (selector_alone absent v) b
unnamed_braces (is_braces j) = is_selector (λ ss rest r. is_rule (is_right (is_right (is_right (is_right (is_pair j r))))))

-- primaries
paren_made : {u v w : Meaning} {ts a b mid : List Seen} → IsTok IsAt (sign_at LeftParen) ts u a → IsPart (rule expression) a v b → IsTok IsAt (sign_at RightParen) b w mid → IsPrimary true ts (lift g.opened_by u (lift g.closed_by v w)) mid
paren_made (is_tok is_at i) (is_part h) (is_tok is_at j) = is_primary (λ ss rest r. is_rule (is_left (is_pair (is_pair i (is_pair h j)) r)))

wide : {v : QueryValue} {ts rest : List Seen} → RG (rule (g.Postfix false)) ts v rest → RG (rule (g.Postfix true)) ts v rest
wide (is_rule d) = is_rule (is_right d)

wider : {m : Meaning} {ts mid : List Seen} → IsPrimary false ts m mid → IsPrimary true ts m mid
wider (is_primary f) = is_primary (λ ss rest r. wide (f ss rest r))

literal_made : {m : Meaning} {ts mid : List Seen} → IsTok IsLiteral literal_at ts m mid → IsPrimary false ts m mid
literal_made (is_tok is_literal i) = is_primary (λ ss rest r. is_rule (is_rule (is_left (is_pair i r))))

-- arguments
data AreArguments : List Seen → Meaning → List Seen → Type 0 where
  are_arguments : {ts rest : List Seen} {us : Tree} → RG (rule g.Arguments) ts (arguments us) rest → AreArguments ts (given (arguments us)) rest

data EndsArguments : Meaning → List Seen → Meaning → List Seen → Type 0 where
  ends_arguments : {ts rest : List Seen} {us ws : Tree} → RG (turns argument (arguments us) next_argument) ts (arguments ws) rest → EndsArguments (given (arguments us)) ts (given (arguments ws)) rest

data IsArgumentState : Meaning → Type 0 where
  is_argument_state : {us : Tree} → IsArgumentState (given (arguments us))

argument_state : {f : F} {v w : Meaning} {ts rest : List Seen} → IsArgumentState v → IsPart f ts w rest → IsArgumentState (lift argument v w)
argument_state is_argument_state (is_part h) = is_argument_state

one_argument : {v c w m : Meaning} {ts a mid rest : List Seen} → IsArgumentState v → IsTok IsAt (sign_at Comma) ts c a → IsPart (rule expression) a w mid → EndsArguments (lift argument v w) mid m rest → EndsArguments v ts m rest
one_argument is_argument_state (is_tok is_at i) (is_part h) (ends_arguments d) = ends_arguments (is_turn (is_pair i h) d)

arguments_end : {v : Meaning} {ts : List Seen} → IsArgumentState v → EndsArguments v ts v ts
arguments_end is_argument_state = ends_arguments is_stop

argument_turns : {v m : Meaning} {ts rest : List Seen} → IsArgumentState v → H (turns (lift argument) v (pair second (sg Comma) (rule (Expr true)))) ts m rest → EndsArguments v ts m rest
argument_turns (is_argument_state {us = us}) by_stop = arguments_end (is_argument_state {us = us})
argument_turns (is_argument_state {us = us}) (by_turn (by_pair a (by_rule h)) d) = one_argument (is_argument_state {us = us}) (sign_of Comma a) h (argument_turns (argument_state (is_argument_state {us = us}) h) d)

some_arguments_of : {w m : Meaning} {ts mid rest : List Seen} → IsPart (rule expression) ts w mid → EndsArguments (lift argument (given (arguments none)) w) mid m rest → AreArguments ts m rest
some_arguments_of (is_part h) (ends_arguments d) = are_arguments (is_rule (is_left (is_fold (is_pair is_nothing h) d)))

arguments_of : {m : Meaning} {ts rest : List Seen} → H arguments_part ts m rest → AreArguments ts m rest
arguments_of (by_left (by_fold (by_pair by_nothing (by_rule h)) d)) = some_arguments_of h (argument_turns (argument_state (is_argument_state {us = none}) h) d)
arguments_of (by_right by_nothing) = are_arguments (is_rule (is_right is_nothing))

call_of : {u v w x : Meaning} {ts a b c mid : List Seen} → IsTok IsFunction function_at ts u a → IsTok IsAt (sign_at LeftParen) a v b → AreArguments b w c → IsTok IsAt (sign_at RightParen) c x mid → IsPrimary false ts (lift call_made u (lift g.arguments_closed w x)) mid
call_of (is_tok is_function i) (is_tok is_at j) (are_arguments k) (is_tok is_at l) = is_primary (λ ss rest r. is_rule (is_rule (is_right (is_right (is_left (is_pair i (is_rule (is_left (is_pair j (is_pair (is_pair k l) r))))))))))

-- aggregations
group_made : {u v : Meaning} {ts a rest : List Seen} → IsTok IsGrouper grouping_at ts u a → IsLabels a v rest → IsGroup ts (lift g.grouping_made u v) rest
group_made (is_tok is_grouper i) (is_labels j) = is_group (is_pair i j)

data IsClosed : List Seen → Meaning → List Seen → Type 0 where
  is_closed : {ts rest : List Seen} {us : Tree} {q : Place} → RG parameters ts (closed us q) rest → IsClosed ts (given (closed us q)) rest

two_parameters : {u v w x y : Meaning} {ts a b c d rest : List Seen} → IsTok IsAt (sign_at LeftParen) ts u a → IsPart (rule expression) a v b → IsTok IsAt (sign_at Comma) b w c → IsPart (rule expression) c x d → IsTok IsAt (sign_at RightParen) d y rest →
    IsClosed ts (lift g.arguments_closed (lift g.parameter v x) y) rest
two_parameters (is_tok is_at i) (is_part h) (is_tok is_at j) (is_part k) (is_tok is_at l) = is_closed (is_pair i (is_pair (is_rule (is_pair h (is_left (is_pair j k)))) l))

one_parameter : {u v y : Meaning} {ts a b rest : List Seen} → IsTok IsAt (sign_at LeftParen) ts u a → IsPart (rule expression) a v b → IsTok IsAt (sign_at RightParen) b y rest → IsClosed ts (lift g.arguments_closed (lift g.parameter v (given bare)) y) rest
one_parameter (is_tok is_at i) (is_part h) (is_tok is_at l) = is_closed (is_pair i (is_pair (is_rule (is_pair h (is_right is_nothing))) l))

parameters_of : {m : Meaning} {ts rest : List Seen} → H parameters_part ts m rest → IsClosed ts m rest
parameters_of (by_pair a (by_pair (by_pair (by_rule h) (by_left (by_pair b (by_rule k)))) c)) = two_parameters (sign_of LeftParen a) h (sign_of Comma b) k (sign_of RightParen c)
parameters_of (by_pair a (by_pair (by_pair (by_rule h) (by_right by_nothing)) c)) = one_parameter (sign_of LeftParen a) h (sign_of RightParen c)

data IsAggregation : List Seen → Meaning → List Seen → Type 0 where
  is_aggregation : {ts rest : List Seen} {gr : Grouping} {us : Tree} {q : Place} → RG (rule g.Aggregation) ts (aggregation gr us q) rest → IsAggregation ts (given (aggregation gr us q)) rest

before_of : {u v : Meaning} {ts a rest : List Seen} → IsGroup ts u a → IsClosed a v rest → IsAggregation ts (lift g.grouped_before u v) rest
before_of (is_group i) (is_closed j) = is_aggregation (is_rule (is_left (is_pair i j)))

after_of : {u v : Meaning} {ts a rest : List Seen} → IsClosed ts u a → IsGroup a v rest → IsAggregation ts (lift g.grouped_after u v) rest
after_of (is_closed j) (is_group i) = is_aggregation (is_rule (is_right (is_pair j (is_left i))))

after_none : {u : Meaning} {ts rest : List Seen} → IsClosed ts u rest → IsAggregation ts (lift g.grouped_after u (given bare)) rest
after_none (is_closed j) = is_aggregation (is_rule (is_right (is_pair j (is_right is_nothing))))

aggregate_of_token : {u v : Meaning} {ts a mid : List Seen} → IsTok IsAggregator aggregate_at ts u a → IsAggregation a v mid → IsPrimary false ts (lift aggregation_made u v) mid
aggregate_of_token (is_tok is_aggregator i) (is_aggregation j) = is_primary (λ ss rest r. is_rule (is_rule (is_right (is_right (is_right (is_left (is_pair (is_pair i j) r)))))))

-- signs
signed_of : (o : Bool) {u v : Meaning} {ts a rest : List Seen} → IsTok IsSigned minus_at ts u a → IsPart (rule (g.Unary true)) a v rest → IsPart (rule (g.Unary o)) ts (lift g.signed_by u v) rest
signed_of o (is_tok (is_signed {b = true}) i) (is_part h) = is_part (is_rule (is_left (is_pair i h)))
signed_of o (is_tok (is_signed {b = false}) i) (is_part h) = is_part (is_rule (is_left (is_pair i h)))

unsigned_of : (o : Bool) {m : Meaning} {ts rest : List Seen} → IsPart (rule (g.Postfix o)) ts m rest → IsPart (rule (g.Unary o)) ts m rest
unsigned_of o (is_part h) = is_part (is_rule (is_right h))

means : (n : PlainRule) (ts : List Seen) (m : Meaning) (rest : List Seen) → H (plain n) ts m rest → Means n ts m rest
means (Expr p) _ _ _ h = operations_of level.Or p h
means (And p) _ _ _ h = operations_of level.And p h
means (Cmp p) _ _ _ h = operations_of level.Comparison p h
means (Sum p) _ _ _ h = operations_of level.Sum p h
means (Prod p) _ _ _ h = operations_of level.Product p h
means (Unary p) _ _ _ (by_left (by_pair a (by_rule h))) = signed_of p (tok_of IsSigned minus_at minus_shape a) h
means (Unary p) _ _ _ (by_right (by_rule h)) = unsigned_of p h
means Mods _ _ _ (by_pair (by_right by_nothing) (by_right by_nothing)) = no_mods
means Mods _ _ _ (by_pair (by_left a) (by_right by_nothing)) = flag_alone (tok_of IsAt (word_at BoolWord) (word_shape BoolWord) a)
means Mods _ _ _ (by_pair (by_right by_nothing) (by_left (by_pair a (by_pair (by_rule h) (by_right by_nothing))))) = unflagged true (keyed_none (tok_of IsMatches matching_at matching_shape a) h)
means Mods _ _ _ (by_pair (by_right by_nothing) (by_left (by_pair a (by_pair (by_rule h) (by_left (by_pair b (by_rule k))))))) =
    unflagged true (keyed_side (tok_of IsMatches matching_at matching_shape a) h (tok_of IsSided side_at side_shape b) k)
means Mods _ _ _ (by_pair (by_left f) (by_left (by_pair a (by_pair (by_rule h) (by_right by_nothing))))) =
    flagged true (tok_of IsAt (word_at BoolWord) (word_shape BoolWord) f) (keyed_none (tok_of IsMatches matching_at matching_shape a) h)
means Mods _ _ _ (by_pair (by_left f) (by_left (by_pair a (by_pair (by_rule h) (by_left (by_pair b (by_rule k))))))) =
    flagged true (tok_of IsAt (word_at BoolWord) (word_shape BoolWord) f) (keyed_side (tok_of IsMatches matching_at matching_shape a) h (tok_of IsSided side_at side_shape b) k)
means BareMods _ _ _ (by_pair (by_right by_nothing) (by_pair a (by_pair (by_rule h) b))) = unflagged false (keyed_bare (tok_of IsMatches matching_at matching_shape a) h (tok_of IsSided side_at side_shape b))
means BareMods _ _ _ (by_pair (by_left f) (by_pair a (by_pair (by_rule h) b))) =
    flagged false (tok_of IsAt (word_at BoolWord) (word_shape BoolWord) f) (keyed_bare (tok_of IsMatches matching_at matching_shape a) h (tok_of IsSided side_at side_shape b))
means Labels _ _ _ (by_pair a (by_pair b c)) = labels_made (sign_of LeftParen a) (names_of b) (sign_of RightParen c)
means (Postfix p) _ _ _ h = postfix_made p h
means Selector _ _ _ (by_left (by_pair a (by_left (by_rule h)))) = named_braces (name_of a) h
means Selector _ _ _ (by_left (by_pair a (by_right by_nothing))) = named_alone (name_of a)
means Selector _ _ _ (by_right (by_pair by_nothing (by_rule h))) = unnamed_braces h
means (Primary true) _ _ _ (by_left (by_pair a (by_pair (by_rule h) b))) = paren_made (sign_of LeftParen a) h (sign_of RightParen b)
means (Primary true) _ _ _ (by_right (by_rule h)) = wider h
means (Primary false) _ _ _ (by_left a) = literal_made (tok_of IsLiteral literal_at literal_shape a)
means (Primary false) _ _ _ (by_right (by_left (by_pair a (by_pair b (by_pair c d))))) = call_of (tok_of IsFunction function_at function_shape a) (sign_of LeftParen b) (arguments_of c) (sign_of RightParen d)
means (Primary false) _ _ _ (by_right (by_right (by_pair a (by_left (by_pair (by_rule h) k))))) = aggregate_of_token (tok_of IsAggregator aggregate_at aggregate_shape a) (before_of h (parameters_of k))
means (Primary false) _ _ _ (by_right (by_right (by_pair a (by_right (by_pair k (by_left (by_rule h))))))) = aggregate_of_token (tok_of IsAggregator aggregate_at aggregate_shape a) (after_of (parameters_of k) h)
means (Primary false) _ _ _ (by_right (by_right (by_pair a (by_right (by_pair k (by_right by_nothing)))))) = aggregate_of_token (tok_of IsAggregator aggregate_at aggregate_shape a) (after_none (parameters_of k))
means Group _ _ _ (by_pair a (by_rule h)) = group_made (tok_of IsGrouper grouping_at grouping_shape a) h
means (Braces named) _ _ _ h = braces_of named h
means (M named) _ _ _ h = m_of named h

part_reading : {f : F} {p : Place} {t : Tree} {ts rest : List Seen} → IsPart f ts (given (part p t)) rest → RG f ts (part p t) rest
part_reading (is_part h) = h

pub from_plain : (ts : List Seen) (p : Place) (t : Tree) → Reads plain (rule (Expr true)) ts (given (part p t)) [] → Reads production (rule expression) ts (part p t) []
from_plain ts p t d = part_reading (ruled (by_lists plain Means means d))

split_part : {m : Meaning} {ts : List Seen} → IsPart (rule expression) ts m [] → (v : QueryValue) × Reads production (rule expression) ts v []
split_part (is_part {p = p} {t = t} h) = (part p t, h)

pub split_read : (ts : List Seen) (m : Meaning) → Reads plain (rule (Expr true)) ts m [] → (v : QueryValue) × Reads production (rule expression) ts v []
split_read ts m d = split_part (ruled (by_lists plain Means means d))
