-- A printed tree is read as itself: its tokens, which stand nowhere, have it without its places.
use Rattle.std.proofs.Common.{◌≡◌, ℕ, Option, Some, None, Bool, true, false, List, [], ◌∷◌, map, refl, ap, sym, ◌∙◌, subst, arith}
use Rattle.std.specs.Prelude.{◌==◌, option_map, codes, if◌then◌else◌, pos, negsuc}
use Rattle.std.proofs.lemmas.Bool.Decides.{nat_tests}
use Rattle.pr_forms.specs.Form.{token, turns, rule, Reads, is_token, is_nothing, is_pair, is_left, is_right, is_stop, is_turn, is_fold, is_rule}
use Rattle.pr_num.specs.declared.value.Num.{Num}
use Rattle.pr_num.specs.declared.value.Num.TheVariants.{Finite, NaN, PosInf, NegInf}
use Rattle.pr_ast.specs.Words.{word_of, words, is_word, word_text}
use Rattle.pr_ast.specs.declared.lex.words.Word.TheVariants.{Offset, By, Without, On, Ignoring, GroupLeft, GroupRight, Bool as BoolWord, Inf, NaN as NaNWord}
use Rattle.pr_ast.specs.declared.lex.token.Token.{Token}
use Rattle.pr_ast.specs.declared.lex.token.TokenKind.{TokenKind}
use Rattle.pr_ast.specs.declared.lex.token.TokenKind.TheVariants.{Name, Duration, Sign as SignToken}
use Rattle.pr_ast.specs.declared.lex.token.Sign.TheVariants.{RightBrace, LeftParen, RightParen, RightBracket, Comma}
use Rattle.pr_labels.specs.declared.grouping.Grouping.{Grouping}
use Rattle.pr_labels.specs.declared.matching.Matching.{Matching}
use Rattle.pr_labels.specs.declared.matching.Card.{Card}
use Rattle.pr_labels.specs.declared.matching.Card.TheVariants.{OneToOne, ManyToOne, OneToMany}
use Rattle.pr_ast.specs.declared.place.Place.{Place}
use Rattle.pr_ast.specs.declared.selector.Selector.{Selector}
use Rattle.pr_ast.specs.declared.selector.MatchText.{MatchText}
use Rattle.pr_ast.specs.declared.selector.MatchSign.{MatchSign}
use Rattle.pr_ast.specs.declared.selector.MatchSign.TheVariants.{Equal as EqualMatch, NotEqual as NotEqualMatch, Like as LikeMatch, NotLike as NotLikeMatch}
use Rattle.pr_ast.specs.declared.names.Func.{Func}
use Rattle.pr_ast.specs.declared.names.AggOp.{AggOp}
use Rattle.pr_ast.specs.declared.names.BinOp.{BinOp}
use Rattle.pr_ast.specs.declared.names.BinOp.TheVariants.{Or as OrOp, And as AndOp, Unless as UnlessOp, Add, Sub as SubOp, Mul, Div, Rem}
use Rattle.pr_ast.specs.Names.{agg_word, agg_text, func_text}
use Rattle.pr_ast.proofs.NameLaws.{func_read, func_no_word, agg_is_word, agg_read}
use Rattle.pr_ast.specs.Tree.{Tree, number, text, select, range, sub, neg, binary, call, aggregate, none, more}
use Rattle.pr_ast.specs.private.Places.{nowhere, forget}
use Rattle.pr_ast.specs.private.Print.{is_operation}
use Rattle.pr_parse.specs.declared.grammar.kind.TokenClass.{TokenClass}
use Rattle.pr_parse.specs.declared.grammar.kind.TokenClass.TheVariants.{Word, Function}
use Rattle.pr_parse.specs.declared.grammar.kind.Level.{Level}
use Rattle.pr_parse.specs.declared.grammar.kind.Level.TheVariants.{Or, And, Comparison, Sum, Product}
use Rattle.pr_parse.specs.declared.grammar.kind.Before.{Before}
use Rattle.pr_parse.specs.declared.grammar.kind.Before.TheVariants.{Selector as Selectors, Range as Ranges, Other as Others}
use Rattle.pr_parse.specs.Seen.{Seen, lexed, seen_token, kind_of, name_kind, word_kind, function_kind}
use Rattle.pr_parse.specs.Grammar.{production, Rule, F, QueryValue, Suffix, in_range, in_subquery, by_offset, part, at, word, lasting, operation, operand, names, labels, match_sign, matchers, braced, suffixes, function, arguments, closed, aggregator, aggregation, signed, stepped, grouped, sided, matches, grouper, side_at, matching_at, range_made, offset_set, applied_to, selector_of, Binary, Modified, Matched, Grouped, Unary, Operand, Labels, MoreLabels, Matchers, MoreMatchers, Arguments, Aggregation, Parameters, After, Step, tighter, operator_of, operator_at, is_label, label_at, is_metric, metric_at, function_at, aggregate_at, is_span, is_shift, span_at, shift_at, literal_at, word_at, match_at, grouping_at, label_list, matcher_list, some_arguments, next_argument, argument, grouping_by, parameters, signed_by}
use Rattle.laws_language.specs.private.Kinds.{op_kind, number_kinds, following_names, names_kinds, labels_kinds, match_kind, following_matchers, matchers_kinds, braces_kinds, selected_kinds, offset_kinds, step_kinds, select_kinds, span_kinds, sub_kinds, side_kinds, on_kind, matching_kinds, bool_kinds, by_kinds, opening, closing, tree_kinds}
use Rattle.laws_language.proofs.Readable.{IsLabel, IsMetric, metric_name, function_name, AllLabels, AllMatchers, IsSelected, IsSpan, IsStep, IsSelector, IsSide, IsMatching, IsUnsigned, IsReadable, a_number, a_text, a_select, a_range, a_sub, a_neg, a_binary, a_call, an_aggregate, a_parameter, no_args, more_args}

-- tokens that stand nowhere
abbrev pub nowhere_token : TokenKind → Token
nowhere_token k = record { start = 0; end = 0; kind = k }

abbrev pub seat : TokenKind → Seen
seat k = seen_token (nowhere_token k)

abbrev pub seats : List TokenKind → List Seen
seats = map seat

abbrev pub R : Rule → List TokenKind → QueryValue → List TokenKind → Type 0
R n ks v rest = Reads production (rule n) (seats ks) v (seats rest)

abbrev pub RF : F → List TokenKind → QueryValue → List TokenKind → Type 0
RF f ks v rest = Reads production f (seats ks) v (seats rest)

-- an operand at any level, and a level as the whole
lifted : {ts rest : List Seen} {v : QueryValue} (l : Level) → Reads production (rule (Unary true)) ts v rest → Reads production (rule (tighter l true)) ts v rest
lifted Product h = h
lifted Sum h = is_rule (is_fold h is_stop)
lifted Comparison h = is_rule (is_fold (is_rule (is_fold h is_stop)) is_stop)
lifted And h = is_rule (is_fold (is_rule (is_fold (is_rule (is_fold h is_stop)) is_stop)) is_stop)
lifted Or h = is_rule (is_fold (is_rule (is_fold (is_rule (is_fold (is_rule (is_fold h is_stop)) is_stop)) is_stop)) is_stop)

raised : {ts rest : List Seen} {v : QueryValue} (l : Level) → Reads production (rule (Binary l true)) ts v rest → Reads production (rule (Binary Or true)) ts v rest
raised Or h = h
raised And h = is_rule (is_fold h is_stop)
raised Comparison h = is_rule (is_fold (is_rule (is_fold h is_stop)) is_stop)
raised Sum h = is_rule (is_fold (is_rule (is_fold (is_rule (is_fold h is_stop)) is_stop)) is_stop)
raised Product h = is_rule (is_fold (is_rule (is_fold (is_rule (is_fold (is_rule (is_fold h is_stop)) is_stop)) is_stop)) is_stop)

alone : {ts rest : List Seen} {v : QueryValue} → Reads production (rule (Unary true)) ts v rest → Reads production (rule (Binary Or true)) ts v rest
alone h = is_rule (is_fold (lifted Or h) is_stop)

-- words
pub word_offset : name_kind (codes "offset") ≡ Word Offset
unfolding word_of words is_word word_text
word_offset = refl

pub word_by : name_kind (codes "by") ≡ Word By
unfolding word_of words is_word word_text
word_by = refl

pub word_without : name_kind (codes "without") ≡ Word Without
unfolding word_of words is_word word_text
word_without = refl

pub word_on : name_kind (codes "on") ≡ Word On
unfolding word_of words is_word word_text
word_on = refl

pub word_ignoring : name_kind (codes "ignoring") ≡ Word Ignoring
unfolding word_of words is_word word_text
word_ignoring = refl

pub word_left : name_kind (codes "group_left") ≡ Word GroupLeft
unfolding word_of words is_word word_text
word_left = refl

pub word_right : name_kind (codes "group_right") ≡ Word GroupRight
unfolding word_of words is_word word_text
word_right = refl

pub word_bool : name_kind (codes "bool") ≡ Word BoolWord
unfolding word_of words is_word word_text
word_bool = refl

pub word_inf : name_kind (codes "Inf") ≡ Word Inf
unfolding word_of words is_word word_text
word_inf = refl

pub word_nan : name_kind (codes "NaN") ≡ Word NaNWord
unfolding word_of words is_word word_text
word_nan = refl

pub func_kind : (f : Func) → name_kind (func_text f) ≡ Function f
func_kind f = ap (λ o. word_kind o (func_text f)) (func_no_word f) ∙ ap (λ o. function_kind o (func_text f)) (func_read f)

pub agg_kind : (o : AggOp) → name_kind (agg_text o) ≡ Word (agg_word o)
agg_kind o = ap (λ w. word_kind w (agg_text o)) (agg_is_word o)

-- a token is read where its kind is known
name_read : (p : Seen → Option QueryValue) (n : List ℕ) (k : TokenClass) (v : QueryValue) {rest : List Seen} → name_kind n ≡ k → p (lexed k (nowhere_token (Name n))) ≡ Some v → Reads production (token p) (seat (Name n) ∷ rest) v rest
name_read p n k v e h = is_token (ap (λ x. p (lexed x (nowhere_token (Name n)))) e ∙ h)

when : (b : Bool) (v : QueryValue) → b ≡ true → (if b then Some v else None) ≡ Some v
when true v e = refl
when false v e = absurd (cc)

label_read : (named : Bool) (n : List ℕ) {rest : List Seen} → IsLabel named n → Reads production (token (label_at named)) (seat (Name n) ∷ rest) (word nowhere n) rest
label_read named n h = is_token (when (is_label named (name_kind n)) (word nowhere n) h.is)

span_read : (ms : ℕ) {rest : List Seen} → IsSpan ms → Reads production (token span_at) (seat (Duration ms) ∷ rest) (lasting nowhere ms) rest
span_read ms h = is_token (when (is_span (kind_of (Duration ms))) (lasting nowhere ms) h.some)

any_shift : (ms : ℕ) (b : Bool) → ms == 0 ≡ b → is_shift (kind_of (Duration ms)) ≡ true
any_shift ms true e = rw e refl
any_shift ms false e = rw e refl

shift_read : (ms : ℕ) {rest : List Seen} → Reads production (token shift_at) (seat (Duration ms) ∷ rest) (lasting nowhere ms) rest
shift_read ms = is_token (when (is_shift (kind_of (Duration ms))) (lasting nowhere ms) (any_shift ms (ms == 0) refl))

-- names in parentheses
following_read : (ns : List (List ℕ)) (ls : List TokenKind) → AllLabels ns → R MoreLabels (following_names ns ls) (names ns) ls
following_read [] ls h = is_rule (is_right is_nothing)
following_read (n ∷ ns) ls h = is_rule (is_left (is_pair (is_token refl) (is_rule (is_left (is_pair (label_read false n h.0) (following_read ns ls h.1))))))

names_read : (ns : List (List ℕ)) (ls : List TokenKind) → AllLabels ns → R Labels (names_kinds ns ls) (names ns) ls
names_read [] ls h = is_rule (is_right is_nothing)
names_read (n ∷ ns) ls h = is_rule (is_left (is_pair (label_read false n h.0) (following_read ns ls h.1)))

labels_read : (ns : List (List ℕ)) (ls : List TokenKind) → AllLabels ns → RF label_list (labels_kinds ns ls) (labels ns nowhere) ls
labels_read ns ls h = is_pair (is_token refl) (is_pair (names_read ns (SignToken RightParen ∷ ls) h) (is_token refl))

-- matchers in braces
match_read : (s : MatchSign) {rest : List Seen} → Reads production (token match_at) (seat (match_kind s) ∷ rest) (match_sign s) rest
match_read EqualMatch = is_token refl
match_read NotEqualMatch = is_token refl
match_read LikeMatch = is_token refl
match_read NotLikeMatch = is_token refl

more_matchers_read : (named : Bool) (ms : List MatchText) (ls : List TokenKind) → AllMatchers named ms → R (MoreMatchers named) (following_matchers ms ls) (matchers ms) ls
more_matchers_read named [] ls h = is_rule (is_right is_nothing)
more_matchers_read named (m ∷ ms) ls h =
    is_rule (is_left (is_pair (is_token refl) (is_rule (is_left (is_pair (label_read named m.label h.0) (is_pair (is_pair (match_read m.op) (is_token refl)) (more_matchers_read named ms ls h.1)))))))

matchers_read : (named : Bool) (ms : List MatchText) (ls : List TokenKind) → AllMatchers named ms → R (Matchers named) (matchers_kinds ms ls) (matchers ms) ls
matchers_read named [] ls h = is_rule (is_right is_nothing)
matchers_read named (m ∷ ms) ls h =
    is_rule (is_left (is_pair (label_read named m.label h.0) (is_pair (is_pair (match_read m.op) (is_token refl)) (more_matchers_read named ms ls h.1))))

braces_read : (named : Bool) (ms : List MatchText) (ls : List TokenKind) → AllMatchers named ms → RF (matcher_list named) (braces_kinds ms ls) (braced ms nowhere) ls
braces_read named ms ls h = is_pair (is_token refl) (is_pair (matchers_read named ms (SignToken RightBrace ∷ ls) h) (is_token refl))

-- suffixes that stand nowhere
abbrev pub AllNowhere : List Suffix → Type 0
AllNowhere [] = Unit {0}
AllNowhere (in_range d q ∷ ss) = (q ≡ nowhere) × AllNowhere ss
AllNowhere (in_subquery d step q ∷ ss) = (q ≡ nowhere) × AllNowhere ss
AllNowhere (by_offset d q ∷ ss) = (q ≡ nowhere) × AllNowhere ss

-- a plus before a part that stands nowhere changes nothing
plus_nowhere : (t : Tree) (ss : List Suffix) → AllNowhere ss → signed_by (signed false nowhere) (applied_to nowhere t ss) ≡ applied_to nowhere t ss
plus_nowhere t [] h = refl
plus_nowhere t (in_range d q ∷ ss) h = rw h.0 (plus_nowhere (range_made nowhere d t) ss h.1)
plus_nowhere t (in_subquery d step q ∷ ss) h = rw h.0 (plus_nowhere (sub nowhere t d step 0) ss h.1)
plus_nowhere t (by_offset d q ∷ ss) h = rw h.0 (plus_nowhere (offset_set nowhere d t) ss h.1)

-- an offset, where there is one
abbrev with_offset : ℕ → List Suffix → List Suffix
with_offset ms ss = if ms == 0 then ss else by_offset ms nowhere ∷ ss

abbrev past_offset : ℕ → Before → Before
past_offset ms b = if ms == 0 then b else Others

offset_range : (ms : ℕ) (z : Bool) (ss : List Suffix) (ls rest : List TokenKind) → R (After (if z then Ranges else Others)) ls (suffixes ss) rest →
    R (After Ranges) (if z then ls else Name (codes "offset") ∷ Duration ms ∷ ls) (suffixes (if z then ss else by_offset ms nowhere ∷ ss)) rest
offset_range ms true ss ls rest r = r
offset_range ms false ss ls rest r = is_rule (is_left (is_pair (name_read (word_at Offset) (codes "offset") (Word Offset) (at nowhere) word_offset refl) (is_rule (is_pair (shift_read ms) r))))

offset_select : (ms : ℕ) (z : Bool) (ss : List Suffix) (ls rest : List TokenKind) → R (After (if z then Selectors else Others)) ls (suffixes ss) rest →
    R (After Selectors) (if z then ls else Name (codes "offset") ∷ Duration ms ∷ ls) (suffixes (if z then ss else by_offset ms nowhere ∷ ss)) rest
offset_select ms true ss ls rest r = r
offset_select ms false ss ls rest r = is_rule (is_right (is_left (is_pair (name_read (word_at Offset) (codes "offset") (Word Offset) (at nowhere) word_offset refl) (is_rule (is_pair (shift_read ms) r)))))

is_zero : (ms : ℕ) → ms == 0 ≡ true → 0 ≡ ms
is_zero ms e = grind (arith, nat_tests)

select_moved : (name : Option (List ℕ)) (ms : List MatchText) (offset : ℕ) (z : Bool) (ss : List Suffix) → offset == 0 ≡ z →
    applied_to nowhere (select nowhere (selector_of name ms)) (if z then ss else by_offset offset nowhere ∷ ss) ≡ applied_to nowhere (select nowhere (record { name = name; matchers = ms; offset = offset })) ss
select_moved name ms offset true ss e = ap (λ d. applied_to nowhere (select nowhere (record { name = name; matchers = ms; offset = d })) ss) (is_zero offset e)
select_moved name ms offset false ss e = refl

range_moved : (name : Option (List ℕ)) (ms : List MatchText) (span offset : ℕ) (z : Bool) (ss : List Suffix) → offset == 0 ≡ z →
    applied_to nowhere (range nowhere (selector_of name ms) span) (if z then ss else by_offset offset nowhere ∷ ss) ≡ applied_to nowhere (range nowhere (record { name = name; matchers = ms; offset = offset }) span) ss
range_moved name ms span offset true ss e = ap (λ d. applied_to nowhere (range nowhere (record { name = name; matchers = ms; offset = d }) span) ss) (is_zero offset e)
range_moved name ms span offset false ss e = refl

sub_moved : (t : Tree) (span : ℕ) (step : Option ℕ) (offset : ℕ) (z : Bool) (ss : List Suffix) → offset == 0 ≡ z →
    applied_to nowhere (sub nowhere t span step 0) (if z then ss else by_offset offset nowhere ∷ ss) ≡ applied_to nowhere (sub nowhere t span step offset) ss
sub_moved t span step offset true ss e = ap (λ d. applied_to nowhere (sub nowhere t span step d) ss) (is_zero offset e)
sub_moved t span step offset false ss e = refl

moved_nowhere : (ms : ℕ) (z : Bool) (ss : List Suffix) → AllNowhere ss → AllNowhere (if z then ss else by_offset ms nowhere ∷ ss)
moved_nowhere ms true ss h = h
moved_nowhere ms false ss h = (refl, h)

-- where a printed tree stands before what follows it
abbrev pub after : Tree → Before
after (select p s) = past_offset s.offset Selectors
after (range p s span) = past_offset s.offset Ranges
after (sub p t span step offset) = past_offset offset Ranges
after _ = Others

-- selectors, with what follows them
selected_read : (name : Option (List ℕ)) (ms : List MatchText) (ls rest : List TokenKind) (ss : List Suffix) → IsSelected name ms → R (After Selectors) ls (suffixes ss) rest →
    R Operand (selected_kinds name ms ls) (applied_to nowhere (select nowhere (selector_of name ms)) ss) rest
selected_read None ms ls rest ss h r = is_rule (is_right (is_right (is_right (is_right (is_pair (braces_read false ms ls h) r)))))
selected_read (Some n) ms ls rest ss h r = by_name n ms ls rest ss h.0 h.1 r
  where
    metric_token : (n : List ℕ) {rest : List Seen} → is_metric (name_kind n) ≡ true → Reads production (token metric_at) (seat (Name n) ∷ rest) (word nowhere n) rest
    metric_token n e = is_token (when (is_metric (name_kind n)) (word nowhere n) e)

    function_token : (n : List ℕ) (f : Func) {rest : List Seen} → name_kind n ≡ Function f → Reads production (token function_at) (seat (Name n) ∷ rest) (function f nowhere n) rest
    function_token n f e = name_read function_at n (Function f) (function f nowhere n) e refl

    by_name : (n : List ℕ) (ms : List MatchText) (ls rest : List TokenKind) (ss : List Suffix) → IsMetric n → AllMatchers true ms → R (After Selectors) ls (suffixes ss) rest →
        R Operand (selected_kinds (Some n) ms ls) (applied_to nowhere (select nowhere (selector_of (Some n) ms)) ss) rest
    by_name n [] ls rest ss (metric_name t e) h r = is_rule (is_right (is_left (is_pair (metric_token n e) (is_rule (is_pair (is_rule (is_right is_nothing)) r)))))
    by_name n (m ∷ ms) ls rest ss (metric_name t e) h r = is_rule (is_right (is_left (is_pair (metric_token n e) (is_rule (is_pair (is_rule (is_left (braces_read true (m ∷ ms) ls h))) r)))))
    by_name n [] ls rest ss (function_name f t e) h r = is_rule (is_right (is_right (is_left (is_pair (function_token n f e) (is_rule (is_right (is_rule (is_pair (is_rule (is_right is_nothing)) r))))))))
    by_name n (m ∷ ms) ls rest ss (function_name f t e) h r = is_rule (is_right (is_right (is_left (is_pair (function_token n f e) (is_rule (is_right (is_rule (is_pair (is_rule (is_left (braces_read true (m ∷ ms) ls h))) r))))))))

operand_unary : {ts rest : List Seen} {v : QueryValue} → Reads production (rule Operand) ts v rest → Reads production (rule (Unary true)) ts v rest
operand_unary r = is_rule (is_right (is_rule (is_right r)))

select_read : (s : Selector) (ls rest : List TokenKind) (ss : List Suffix) → IsSelector s → R (After (past_offset s.offset Selectors)) ls (suffixes ss) rest →
    R (Unary true) (select_kinds s ls) (applied_to nowhere (select nowhere s) ss) rest
select_read s ls rest ss h r =
    let d = operand_unary (selected_read s.name s.matchers (offset_kinds s.offset ls) rest (with_offset s.offset ss) h.selected (offset_select s.offset (s.offset == 0) ss ls rest r)) in
    subst (λ v. R (Unary true) (select_kinds s ls) v rest) (select_moved s.name s.matchers s.offset (s.offset == 0) ss refl) d

range_read : (s : Selector) (span : ℕ) (ls rest : List TokenKind) (ss : List Suffix) → IsSelector s → IsSpan span → R (After (past_offset s.offset Ranges)) ls (suffixes ss) rest →
    R (Unary true) (selected_kinds s.name s.matchers (span_kinds span s.offset ls)) (applied_to nowhere (range nowhere s span) ss) rest
range_read s span ls rest ss h w r =
    let a : R (After Selectors) (span_kinds span s.offset ls) (suffixes (in_range span nowhere ∷ with_offset s.offset ss)) rest =
    is_rule (is_left (is_pair (is_token refl) (is_rule (is_pair (span_read span w) (is_rule (is_left (is_pair (is_token refl) (offset_range s.offset (s.offset == 0) ss ls rest r)))))))) in
    let d = operand_unary (selected_read s.name s.matchers (span_kinds span s.offset ls) rest (in_range span nowhere ∷ with_offset s.offset ss) h.selected a) in
    subst (λ v. R (Unary true) (selected_kinds s.name s.matchers (span_kinds span s.offset ls)) v rest) (range_moved s.name s.matchers span s.offset (s.offset == 0) ss refl) d

-- the brackets of a subquery after anything
step_read : (step : Option ℕ) (ms : ℕ) (ls rest : List TokenKind) (ss : List Suffix) → IsStep step → R (After (past_offset ms Ranges)) ls (suffixes ss) rest →
    R Step (step_kinds step (SignToken RightBracket ∷ offset_kinds ms ls)) (stepped step nowhere (with_offset ms ss)) rest
step_read None ms ls rest ss h r = is_rule (is_right (is_rule (is_pair (is_token refl) (offset_range ms (ms == 0) ss ls rest r))))
step_read (Some d) ms ls rest ss h r = is_rule (is_left (is_pair (span_read d h) (is_rule (is_pair (is_token refl) (offset_range ms (ms == 0) ss ls rest r)))))

other_sub : (span : ℕ) (step : Option ℕ) (ms : ℕ) (ls rest : List TokenKind) (ss : List Suffix) → IsSpan span → IsStep step → R (After (past_offset ms Ranges)) ls (suffixes ss) rest →
    R (After Others) (sub_kinds span step ms ls) (suffixes (in_subquery span step nowhere ∷ with_offset ms ss)) rest
other_sub span step ms ls rest ss w h r = is_rule (is_left (is_pair (is_token refl) (is_rule (is_pair (span_read span w) (is_pair (is_token refl) (step_read step ms ls rest ss h r))))))

sub_after : (b : Before) (span : ℕ) (step : Option ℕ) (ms : ℕ) (ls rest : List TokenKind) (ss : List Suffix) → IsSpan span → IsStep step → R (After (past_offset ms Ranges)) ls (suffixes ss) rest →
    R (After b) (sub_kinds span step ms ls) (suffixes (in_subquery span step nowhere ∷ with_offset ms ss)) rest
sub_after Selectors span step ms ls rest ss w h r = is_rule (is_left (is_pair (is_token refl) (is_rule (is_pair (span_read span w) (is_rule (is_right (is_pair (is_token refl) (step_read step ms ls rest ss h r))))))))
sub_after Ranges span step ms ls rest ss w h r = is_rule (is_right (other_sub span step ms ls rest ss w h r))
sub_after Others span step ms ls rest ss w h r = other_sub span step ms ls rest ss w h r

-- What is known of an expression: it is read alone, and as an operand with what follows it.
pub record IsReread (t : Tree) : Type 0 where
  pub whole : (ls : List TokenKind) → R (Binary Or true) (tree_kinds t ls) (part nowhere (forget t)) ls
  pub operand : (ls rest : List TokenKind) (ss : List Suffix) → AllNowhere ss → R (After (after t)) ls (suffixes ss) rest →
      R (Unary true) (opening (is_operation t) (tree_kinds t (closing (is_operation t) ls))) (applied_to nowhere (forget t) ss) rest

no_suffix : (b : Before) (ls : List TokenKind) → R (After b) ls (suffixes []) ls
no_suffix Selectors ls = is_rule (is_right (is_right is_nothing))
no_suffix Ranges ls = is_rule (is_right (is_rule (is_right is_nothing)))
no_suffix Others ls = is_rule (is_right is_nothing)

-- an operand alone
abbrev Operands : Tree → Type 0
Operands t = (ls rest : List TokenKind) (ss : List Suffix) → AllNowhere ss → R (After (after t)) ls (suffixes ss) rest →
    R (Unary true) (opening (is_operation t) (tree_kinds t (closing (is_operation t) ls))) (applied_to nowhere (forget t) ss) rest

abbrev Wholes : Tree → Type 0
Wholes t = (ls : List TokenKind) → R (Binary Or true) (tree_kinds t ls) (part nowhere (forget t)) ls

bare_operand : (t : Tree) → Operands t → (ls : List TokenKind) → R (Unary true) (opening (is_operation t) (tree_kinds t (closing (is_operation t) ls))) (part nowhere (forget t)) ls
bare_operand t h ls = h ls ls [] tt (no_suffix (after t) ls)

-- an operation in parentheses
enclosed_read : (t : Tree) → Wholes t → (ls rest : List TokenKind) (ss : List Suffix) → R (After Others) ls (suffixes ss) rest →
    R (Unary true) (SignToken LeftParen ∷ tree_kinds t (SignToken RightParen ∷ ls)) (applied_to nowhere (forget t) ss) rest
enclosed_read t h ls rest ss r = is_rule (is_right (is_rule (is_left (is_pair (is_pair (is_token refl) (is_pair (h (SignToken RightParen ∷ ls)) (is_token refl))) r))))

-- numbers and strings
number_read : (v : Num) (ls rest : List TokenKind) (ss : List Suffix) → IsUnsigned v → AllNowhere ss → R (After Others) ls (suffixes ss) rest →
    R (Unary true) (number_kinds v ls) (applied_to nowhere (number nowhere v) ss) rest
number_read (Finite (pos n)) ls rest ss h a r = operand_unary (is_rule (is_left (is_pair (is_token refl) r)))
number_read (Finite (negsuc n)) ls rest ss h a r = absurd h
number_read NaN ls rest ss h a r = operand_unary (is_rule (is_left (is_pair (name_read literal_at (codes "NaN") (Word NaNWord) (part nowhere (number nowhere NaN)) word_nan refl) r)))
number_read PosInf ls rest ss h a r =
    let d : R (Unary true) (Name (codes "Inf") ∷ ls) (applied_to nowhere (number nowhere PosInf) ss) rest =
    operand_unary (is_rule (is_left (is_pair (name_read literal_at (codes "Inf") (Word Inf) (part nowhere (number nowhere PosInf)) word_inf refl) r))) in
    subst (λ v. R (Unary true) (number_kinds PosInf ls) v rest) (plus_nowhere (number nowhere PosInf) ss a) (is_rule (is_left (is_pair (is_token refl) d)))
number_read NegInf ls rest ss h a r = absurd h

-- what stands between an operator and its right side
level : BinOp → Level
level OrOp = Or
level AndOp = And
level UnlessOp = And
level Add = Sum
level SubOp = Sum
level Mul = Product
level Div = Product
level Rem = Product
level _ = Comparison

op_read : (o : BinOp) → operator_of (level o) (kind_of (op_kind o)) ≡ Some o
unfolding level word_of words is_word word_text
op_read OrOp = refl
op_read AndOp = refl
op_read UnlessOp = refl
op_read _ = refl

side_read : (l : Level) (card : Card) (include : List (List ℕ)) (ks ls : List TokenKind) (r : Tree) → IsSide card include → R (tighter l true) ks (part nowhere r) ls →
    R (Grouped l) (side_kinds card include ks) (grouped card include nowhere r) ls
side_read l OneToOne include ks ls r h d = subst (λ i. R (Grouped l) ks (grouped OneToOne i nowhere r) ls) (sym h) (is_rule (is_right (is_pair is_nothing d)))
side_read l ManyToOne include ks ls r h d =
    is_rule (is_left (is_pair (name_read side_at (codes "group_left") (Word GroupLeft) (sided ManyToOne) word_left refl) (is_rule (is_left (is_pair (labels_read include ks h) d)))))
side_read l OneToMany include ks ls r h d =
    is_rule (is_left (is_pair (name_read side_at (codes "group_right") (Word GroupRight) (sided OneToMany) word_right refl) (is_rule (is_left (is_pair (labels_read include ks h) d)))))

matched_read : (l : Level) (on : Bool) (ns include : List (List ℕ)) (card : Card) (ks ls : List TokenKind) (r : Tree) → AllLabels ns → IsSide card include → R (tighter l true) ks (part nowhere r) ls →
    R (Matched l) (on_kind on ∷ labels_kinds ns (side_kinds card include ks)) (operand false (Some (record { on = on; names = ns; card = card; include = include })) nowhere r) ls
matched_read l true ns include card ks ls r n h d =
    is_rule (is_left (is_pair (name_read matching_at (codes "on") (Word On) (matches true) word_on refl) (is_pair (labels_read ns (side_kinds card include ks) n) (side_read l card include ks ls r h d))))
matched_read l false ns include card ks ls r n h d =
    is_rule (is_left (is_pair (name_read matching_at (codes "ignoring") (Word Ignoring) (matches false) word_ignoring refl) (is_pair (labels_read ns (side_kinds card include ks) n) (side_read l card include ks ls r h d))))

matching_read : (l : Level) (m : Option Matching) (ks ls : List TokenKind) (r : Tree) → IsMatching m → R (tighter l true) ks (part nowhere r) ls → R (Matched l) (matching_kinds m ks) (operand false m nowhere r) ls
matching_read l None ks ls r h d = is_rule (is_right (is_pair is_nothing d))
matching_read l (Some m) ks ls r h d = matched_read l m.on m.names m.include m.card ks ls r h.names h.side d

modified_read : (l : Level) (b : Bool) (m : Option Matching) (ks ls : List TokenKind) (r : Tree) → IsMatching m → R (tighter l true) ks (part nowhere r) ls →
    R (Modified l) (bool_kinds b (matching_kinds m ks)) (operand b m nowhere r) ls
modified_read l true m ks ls r h d = is_rule (is_left (is_pair (name_read (word_at BoolWord) (codes "bool") (Word BoolWord) (at nowhere) word_bool refl) (matching_read l m ks ls r h d)))
modified_read l false m ks ls r h d = is_rule (is_right (matching_read l m ks ls r h d))

operator_read : (o : BinOp) {rest : List Seen} → Reads production (token (operator_at (level o))) (seat (op_kind o) ∷ rest) (operation o) rest
operator_read o = is_token (ap (option_map operation) (op_read o))

binary_read : (p : Place) (o : BinOp) (b : Bool) (m : Option Matching) (l r : Tree) → IsMatching m → Operands l → Operands r → Wholes (binary p o b m l r)
binary_read p o b m l r h left right ls =
    let after_left : List TokenKind = op_kind o ∷ bool_kinds b (matching_kinds m (opening (is_operation r) (tree_kinds r (closing (is_operation r) ls)))) in
    raised (level o) (is_rule (is_fold (lifted (level o) (bare_operand l left after_left)) (is_turn (is_pair (operator_read o)
    (modified_read (level o) b m (opening (is_operation r) (tree_kinds r (closing (is_operation r) ls))) ls (forget r) h (lifted (level o) (bare_operand r right ls)))) is_stop)))

neg_read : (p : Place) (t : Tree) → Operands t → Wholes (neg p t)
neg_read p t h ls = alone (is_rule (is_left (is_pair (is_token refl) (bare_operand t h ls))))

-- arguments, of which there are some
abbrev Argued : Tree → Type 0
Argued ts = (ls rest : List TokenKind) (v : QueryValue) → Reads production (turns argument (arguments (forget ts)) next_argument) (seats ls) v (seats rest) → RF some_arguments (tree_kinds ts ls) v rest

abbrev pub Reread : Bool → Tree → Type 0
Reread true t = IsReread t
Reread false none = Unit {0}
Reread false ts = Argued ts

args_more : {ts : Tree} (t : Tree) → IsReadable false ts → Reread false ts → Wholes t → Argued (more ts t)
args_more t no_args a w ls rest v d = is_fold (is_pair is_nothing (w ls)) d
args_more t (more_args {ts = us} {t = u} h k) a w ls rest v d = a (SignToken Comma ∷ tree_kinds t ls) rest v (is_turn (is_pair (is_token refl) (w ls)) d)

arguments_read : {ts : Tree} (ls : List TokenKind) → IsReadable false ts → Reread false ts → R Arguments (tree_kinds ts ls) (arguments (forget ts)) ls
arguments_read ls no_args a = is_rule (is_right is_nothing)
arguments_read ls (more_args {ts = us} {t = u} h k) a = is_rule (is_left (a ls ls (arguments (forget (more us u))) is_stop))

call_read : (p : Place) (f : Func) (ts : Tree) → IsReadable false ts → Reread false ts → Operands (call p f ts)
call_read p f ts h a ls rest ss n r =
    operand_unary (is_rule (is_right (is_right (is_left (is_pair (name_read function_at (func_text f) (Function f) (function f nowhere (func_text f)) (func_kind f) refl)
    (is_rule (is_left (is_pair (is_token refl) (is_pair (is_pair (arguments_read (SignToken RightParen ∷ ls) h a) (is_token refl)) r)))))))))

-- aggregations
aggregate_word : (o : AggOp) {rest : List Seen} → Reads production (token aggregate_at) (seat (Name (agg_text o)) ∷ rest) (aggregator o nowhere) rest
aggregate_word o = is_token (ap (λ k. aggregate_at (lexed k (nowhere_token (Name (agg_text o))))) (agg_kind o) ∙ ap (option_map (λ (op : AggOp). aggregator op nowhere)) (agg_read o))

by_read : (by : Bool) (ns : List (List ℕ)) (ts : Tree) (ks ls : List TokenKind) → AllLabels ns → RF parameters ks (closed ts nowhere) ls →
    R Aggregation (by_kinds by ns ks) (aggregation (grouping_by by ns) ts nowhere) ls
by_read true [] ts ks ls h d = is_rule (is_right (is_pair d (is_right is_nothing)))
by_read true (n ∷ ns) ts ks ls h d = is_rule (is_left (is_pair (is_pair (name_read grouping_at (codes "by") (Word By) (grouper true) word_by refl) (labels_read (n ∷ ns) ks h)) d))
by_read false ns ts ks ls h d = is_rule (is_left (is_pair (is_pair (name_read grouping_at (codes "without") (Word Without) (grouper false) word_without refl) (labels_read ns ks h)) d))

aggregate_read : (p : Place) (o : AggOp) (g : Grouping) (ts : Tree) → AllLabels g.names → ((ls : List TokenKind) → R Parameters (tree_kinds ts ls) (arguments (forget ts)) ls) → Operands (aggregate p o g ts)
aggregate_read p o g ts h d ls rest ss n r =
    let e : RF parameters (SignToken LeftParen ∷ tree_kinds ts (SignToken RightParen ∷ ls)) (closed (forget ts) nowhere) ls = is_pair (is_token refl) (is_pair (d (SignToken RightParen ∷ ls)) (is_token refl)) in
    operand_unary (is_rule (is_right (is_right (is_right (is_left (is_pair (is_pair (aggregate_word o) (by_read g.by g.names (forget ts) (SignToken LeftParen ∷ tree_kinds ts (SignToken RightParen ∷ ls)) ls h e)) r))))))

one_parameter : (t : Tree) → Wholes t → (ls : List TokenKind) → R Parameters (tree_kinds (more none t) ls) (arguments (forget (more none t))) ls
one_parameter t w ls = is_rule (is_pair (w ls) (is_right is_nothing))

two_parameters : (t u : Tree) → Wholes t → Wholes u → (ls : List TokenKind) → R Parameters (tree_kinds (more (more none t) u) ls) (arguments (forget (more (more none t) u))) ls
two_parameters t u w x ls = is_rule (is_pair (w (SignToken Comma ∷ tree_kinds u ls)) (is_left (is_pair (is_token refl) (x ls))))

-- an operand that is no operation is read alone too
of_operand : (t : Tree) → is_operation t ≡ false → Operands t → IsReread t
of_operand t e h = record { operand = h; whole = λ ls. alone (subst (λ b. R (Unary true) (opening b (tree_kinds t (closing b ls))) (part nowhere (forget t)) ls) e (bare_operand t h ls)) }

sub_read : (p : Place) (t : Tree) (span : ℕ) (step : Option ℕ) (offset : ℕ) → IsSpan span → IsStep step → Operands t → Operands (sub p t span step offset)
sub_read p t span step offset w s h ls rest ss n r =
    let d = h (sub_kinds span step offset ls) rest (in_subquery span step nowhere ∷ with_offset offset ss) (refl, moved_nowhere offset (offset == 0) ss n) (sub_after (after t) span step offset ls rest ss w s r) in
    subst (λ v. R (Unary true) (tree_kinds (sub p t span step offset) ls) v rest) (sub_moved (forget t) span step offset (offset == 0) ss refl) d

pub reread : {b : Bool} {t : Tree} → IsReadable b t → Reread b t
reread (a_number {p} {v} h) = of_operand (number p v) refl (λ ls rest ss n r. number_read v ls rest ss h n r)
reread (a_text {p} {t}) = of_operand (text p t) refl (λ ls rest ss n r. operand_unary (is_rule (is_left (is_pair (is_token refl) r))))
reread (a_select {p} {s} h) = of_operand (select p s) refl (λ ls rest ss n r. select_read s ls rest ss h r)
reread (a_range {p} {s} {span} h w) = of_operand (range p s span) refl (λ ls rest ss n r. range_read s span ls rest ss h w r)
reread (a_sub {p} {t} {span} {offset} {step} w s o h) = let i = reread h in of_operand (sub p t span step offset) refl (sub_read p t span step offset w s i.operand)
reread (a_neg {p} {t} h) = let i = reread h in let w = neg_read p t i.operand in record { whole = w; operand = λ ls rest ss n r. enclosed_read (neg p t) w ls rest ss r }
reread (a_binary {p} {o} {b} {m} {l} {r} m' h k) =
    let i = reread h in let j = reread k in let w = binary_read p o b m l r m' i.operand j.operand in
    record { whole = w; operand = λ ls rest ss n r'. enclosed_read (binary p o b m l r) w ls rest ss r' }
reread (a_call {p} {f} {ts} h) = of_operand (call p f ts) refl (call_read p f ts h (reread h))
reread (an_aggregate {p} {o} {g} {t} n h) = let i = reread h in of_operand (aggregate p o g (more none t)) refl (aggregate_read p o g (more none t) n (one_parameter t i.whole))
reread (a_parameter {p} {o} {g} {t} {u} n h k) =
    let i = reread h in let j = reread k in of_operand (aggregate p o g (more (more none t) u)) refl (aggregate_read p o g (more (more none t) u) n (two_parameters t u i.whole j.whole))
reread no_args = tt
reread (more_args {ts} {t} h k) = let j = reread k in args_more t h (reread h) j.whole
