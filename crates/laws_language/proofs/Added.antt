-- What the tokens of a printed tree add to the part that they stand in: operators, and the heights
-- of closed parts.
use Rattle.std.proofs.Common.{◌≡◌, ℕ, suc, ◌+◌, ◌≤◌, max, Bool, true, false, Option, Some, None, List, [], ◌∷◌, map, refl, ap, ◌∙◌, subst, arith}
use Rattle.std.specs.Prelude.{◌==◌, codes, if◌then◌else◌, pos, negsuc}
use Rattle.pr_num.specs.declared.value.Num.{Num}
use Rattle.pr_num.specs.declared.value.Num.TheVariants.{Finite, NaN, PosInf, NegInf}
use Rattle.pr_ast.specs.Words.{word_of, words, is_word, word_text}
use Rattle.pr_ast.specs.declared.lex.words.Word.TheVariants.{Offset, By, Without, On, Ignoring, GroupLeft, GroupRight, Bool as BoolWord, Inf, NaN as NaNWord}
use Rattle.pr_ast.specs.declared.lex.token.TokenKind.{TokenKind}
use Rattle.pr_ast.specs.declared.lex.token.TokenKind.TheVariants.{Name, Number as NumberToken, Duration, Text as TextToken, Sign as SignToken}
use Rattle.pr_ast.specs.declared.lex.token.Sign.{Sign as SignOf}
use Rattle.pr_ast.specs.declared.lex.token.Sign.TheVariants.{RightBrace, LeftParen, RightParen, LeftBracket, RightBracket, Comma, Colon, Minus, Plus}
use Rattle.pr_labels.specs.declared.matching.Matching.{Matching}
use Rattle.pr_labels.specs.declared.matching.Card.{Card}
use Rattle.pr_labels.specs.declared.matching.Card.TheVariants.{OneToOne, ManyToOne, OneToMany}
use Rattle.pr_ast.specs.declared.selector.Selector.{Selector}
use Rattle.pr_ast.specs.declared.selector.MatchText.{MatchText}
use Rattle.pr_ast.specs.declared.selector.MatchSign.{MatchSign}
use Rattle.pr_ast.specs.declared.selector.MatchSign.TheVariants.{Equal as EqualMatch, NotEqual as NotEqualMatch, Like as LikeMatch, NotLike as NotLikeMatch}
use Rattle.pr_ast.specs.declared.names.Func.{Func}
use Rattle.pr_ast.specs.declared.names.AggOp.{AggOp}
use Rattle.pr_ast.specs.declared.names.AggOp.TheVariants.{Sum}
use Rattle.pr_ast.specs.declared.names.BinOp.{BinOp}
use Rattle.pr_ast.specs.declared.names.BinOp.TheVariants.{Or}
use Rattle.pr_ast.specs.Names.{agg_word, agg_text, func_text}
use Rattle.pr_parse.specs.declared.grammar.kind.TokenClass.{TokenClass}
use Rattle.pr_parse.specs.declared.grammar.kind.TokenClass.TheVariants.{Word, Function, Sign}
use Rattle.pr_parse.specs.Seen.{kind_of, name_kind}
use Rattle.pr_parse.specs.private.Open.{Open}
use Rattle.pr_parse.specs.Deep.{is_counted, count, after_kind, after_kinds}
use Rattle.laws_language.specs.private.Kinds.{op_kind, number_kinds, following_names, names_kinds, labels_kinds, match_kind, matcher_kinds, following_matchers, matchers_kinds, braces_kinds, selected_kinds, step_kinds, select_kinds, span_kinds, sub_kinds, side_kinds, on_kind, matching_kinds, bool_kinds, by_kinds}
use Rattle.laws_language.proofs.Reread.{word_offset, word_by, word_without, word_on, word_ignoring, word_left, word_right, word_bool, word_inf, word_nan, func_kind, agg_kind}
use Rattle.laws_language.proofs.Origins.{IsNameKind, a_word, a_function, own_name, colon_name, plain_name, name_kind_is}

-- a part outside braces, and one in braces
abbrev pub part : ℕ → ℕ → Open
part o c = record { braces = false; operators = o; closed = c }

abbrev pub after : List Open → List TokenKind → List Open
after ps ks = after_kinds ps (map kind_of ks)

abbrev pub K : Type 0
K = List TokenKind → List TokenKind

-- These tokens add so many operators to a part, and closed parts of this height.
pub record Adds (a h : ℕ) (f : K) : Type 0 where
  pub does : (o c : ℕ) (ps : List Open) (ks : List TokenKind) → after (part o c ∷ ps) (f ks) ≡ after (part (o + a) (max c h) ∷ ps) ks

same_part : (o c p d : ℕ) (ps : List Open) (ks : List TokenKind) → o ≡ p → c ≡ d → after (part o c ∷ ps) ks ≡ after (part p d ∷ ps) ks
same_part o c p d ps ks e h = rw (e, h) refl

pub nothing_adds : Adds 0 0 (λ ks. ks)
nothing_adds = record { does = λ o c ps ks. same_part o c (o + 0) (max c 0) ps ks (omega arith) (omega arith) }

pub chain : {a h b k : ℕ} {f g : K} → Adds a h f → Adds b k g → Adds (a + b) (max h k) (λ ks. f (g ks))
chain {a} {h} {b} {k} {f} {g} x y = record {
  does = λ o c ps ks. x.does o c ps (g ks) ∙ y.does (o + a) (max c h) ps ks ∙ same_part (o + a + b) (max (max c h) k) (o + (a + b)) (max c (max h k)) ps ks (omega arith) (omega arith);
}

pub as_much : {a h b k : ℕ} {f : K} → a ≡ b → h ≡ k → Adds a h f → Adds b k f
as_much {a} {h} {b} {k} {f} e i x = subst (λ n. Adds n k f) e (subst (λ n. Adds a n f) i x)

-- a token that is no parenthesis, brace or comma
abbrev Plainly : TokenClass → Type 0
Plainly k = (ps : List Open) → after_kind ps k ≡ (if is_counted k then count ps else ps)

name_plainly : (k : TokenClass) → IsNameKind k → Plainly k
name_plainly _ a_word ps = refl
name_plainly _ a_function ps = refl
name_plainly _ own_name ps = refl
name_plainly _ colon_name ps = refl
name_plainly _ plain_name ps = refl

uncounted : (x : TokenKind) → Plainly (kind_of x) → is_counted (kind_of x) ≡ false → Adds 0 0 (λ ks. x ∷ ks)
uncounted x p e = record {
  does = λ o c ps ks.
      ap (λ qs. after qs ks) (p (part o c ∷ ps) ∙ ap (λ (b : Bool). if b then count (part o c ∷ ps) else part o c ∷ ps) e) ∙ same_part o c (o + 0) (max c 0) ps ks (omega arith) (omega arith);
}

counted : (x : TokenKind) → Plainly (kind_of x) → is_counted (kind_of x) ≡ true → Adds 1 0 (λ ks. x ∷ ks)
counted x p e = record {
  does = λ o c ps ks.
      ap (λ qs. after qs ks) (p (part o c ∷ ps) ∙ ap (λ (b : Bool). if b then count (part o c ∷ ps) else part o c ∷ ps) e) ∙ same_part (o + 1) c (o + 1) (max c 0) ps ks refl (omega arith);
}

-- a name adds an operator at most
pub record Counted (most : ℕ) (f : K) : Type 0 where
  pub count : ℕ
  pub few : count ≤ most
  pub adds : Adds count 0 f

name_by : (n : List ℕ) (b : Bool) → is_counted (name_kind n) ≡ b → Counted 1 (λ ks. Name n ∷ ks)
name_by n true e = record { count = 1; few = omega arith; adds = counted (Name n) (name_plainly (name_kind n) (name_kind_is n)) e }
name_by n false e = record { count = 0; few = omega arith; adds = uncounted (Name n) (name_plainly (name_kind n) (name_kind_is n)) e }

a_name : (n : List ℕ) → Counted 1 (λ ks. Name n ∷ ks)
a_name n = name_by n (is_counted (name_kind n)) refl

-- words that are no operators
a_word_of : (n : List ℕ) (k : TokenClass) → name_kind n ≡ k → is_counted k ≡ false → Adds 0 0 (λ ks. Name n ∷ ks)
a_word_of n k e h = uncounted (Name n) (name_plainly (name_kind n) (name_kind_is n)) (ap is_counted e ∙ h)

duration_plainly : (ms : ℕ) (b : Bool) → ms == 0 ≡ b → Plainly (kind_of (Duration ms))
duration_plainly ms true e ps = rw e refl
duration_plainly ms false e ps = rw e refl

duration_uncounted : (ms : ℕ) (b : Bool) → ms == 0 ≡ b → is_counted (kind_of (Duration ms)) ≡ false
duration_uncounted ms true e = rw e refl
duration_uncounted ms false e = rw e refl

a_duration : (ms : ℕ) → Adds 0 0 (λ ks. Duration ms ∷ ks)
a_duration ms = uncounted (Duration ms) (duration_plainly ms (ms == 0) refl) (duration_uncounted ms (ms == 0) refl)

-- a part in parentheses
pub enclosed : {a h : ℕ} {f : K} → Adds a h f → Adds 0 (1 + a + h) (λ ks. SignToken LeftParen ∷ f (SignToken RightParen ∷ ks))
enclosed {a} {h} {f} x = record {
  does = λ o c ps ks. x.does 0 0 (part o c ∷ ps) (SignToken RightParen ∷ ks) ∙ same_part o (max c (1 + (0 + a) + max 0 h)) (o + 0) (max c (1 + a + h)) ps ks (omega arith) (omega arith);
}

-- Parts between parentheses, with commas between them: after the last one, and after a comma.
pub record Lists (h : ℕ) (f : K) : Type 0 where
  pub closes : (o c : ℕ) (ps : List Open) (ks : List TokenKind) → after (part 0 0 ∷ part o c ∷ ps) (f (SignToken RightParen ∷ ks)) ≡ after (part o (max c h) ∷ ps) ks
  pub goes_on : (o c : ℕ) (ps : List Open) (ks : List TokenKind) → after (part 0 0 ∷ part o c ∷ ps) (f (SignToken Comma ∷ ks)) ≡ after (part 0 0 ∷ part o (max c h) ∷ ps) ks

same_outer : (o c d : ℕ) (ps : List Open) (ks : List TokenKind) → c ≡ d → after (part 0 0 ∷ part o c ∷ ps) ks ≡ after (part 0 0 ∷ part o d ∷ ps) ks
same_outer o c d ps ks e = ap (λ n. after (part 0 0 ∷ part o n ∷ ps) ks) e

pub one_part : {a h : ℕ} {f : K} → Adds a h f → Lists (1 + a + h) f
one_part {a} {h} {f} x = record {
  closes = λ o c ps ks. x.does 0 0 (part o c ∷ ps) (SignToken RightParen ∷ ks) ∙ same_part o (max c (1 + (0 + a) + max 0 h)) o (max c (1 + a + h)) ps ks refl (omega arith);
  goes_on = λ o c ps ks. x.does 0 0 (part o c ∷ ps) (SignToken Comma ∷ ks) ∙ same_outer o (max c (1 + (0 + a) + max 0 h)) (max c (1 + a + h)) ps ks (omega arith);
}

pub more_parts : {a h k : ℕ} {f g : K} → Lists k f → Adds a h g → Lists (max k (1 + a + h)) (λ ks. f (SignToken Comma ∷ g ks))
more_parts {a} {h} {k} {f} {g} l x = let y = one_part x in record {
  closes = λ o c ps ks. l.goes_on o c ps (g (SignToken RightParen ∷ ks)) ∙ y.closes o (max c k) ps ks ∙ same_part o (max (max c k) (1 + a + h)) o (max c (max k (1 + a + h))) ps ks refl (omega arith);
  goes_on = λ o c ps ks. l.goes_on o c ps (g (SignToken Comma ∷ ks)) ∙ y.goes_on o (max c k) ps ks ∙ same_outer o (max (max c k) (1 + a + h)) (max c (max k (1 + a + h))) ps ks (omega arith);
}

pub in_parens : {h : ℕ} {f : K} → Lists h f → Adds 0 h (λ ks. SignToken LeftParen ∷ f (SignToken RightParen ∷ ks))
in_parens {h} {f} l = record { does = λ o c ps ks. l.closes o c ps ks ∙ same_part o (max c h) (o + 0) (max c h) ps ks (omega arith) refl }

-- labels in parentheses: each label is an operator at most
pub record Few (most : ℕ) (f : K) : Type 0 where
  pub height : ℕ
  pub few : height ≤ most
  pub adds : Adds 0 height f

record Listed (most : ℕ) (f : K) : Type 0 where
  height : ℕ
  few : height ≤ most
  lists : Lists height f

-- commas and names go on from what was listed
names_go_on : (ns : List (List ℕ)) {f : K} → Listed 2 f → Listed 2 (λ ks. f (following_names ns ks))
names_go_on [] l = l
names_go_on (n ∷ ns) {f} l =
    let x = a_name n in let s = x.few in let t = l.few in
    names_go_on ns (record { height = max l.height (1 + x.count + 0); few = omega (arith, s, t); lists = more_parts l.lists x.adds })

pub empty_part : Lists 1 (λ ks. ks)
empty_part = one_part nothing_adds

names_listed : (ns : List (List ℕ)) → Listed 2 (λ ks. names_kinds ns ks)
names_listed [] = record { height = 1; few = omega arith; lists = empty_part }
names_listed (n ∷ ns) = let x = a_name n in let s = x.few in names_go_on ns (record { height = 1 + x.count + 0; few = omega (arith, s); lists = one_part x.adds })

labels_add : (ns : List (List ℕ)) → Few 2 (λ ks. labels_kinds ns ks)
labels_add ns = let l = names_listed ns in record { height = l.height; few = l.few; adds = in_parens l.lists }

-- matchers in braces: nothing in them counts
abbrev braces : Open
braces = record { braces = true; operators = 0; closed = 0 }

record Braced (h : ℕ) (f : K) : Type 0 where
  closes : (o c : ℕ) (ps : List Open) (ks : List TokenKind) → after (braces ∷ part o c ∷ ps) (f (SignToken RightBrace ∷ ks)) ≡ after (part o (max c h) ∷ ps) ks
  goes_on : (o c : ℕ) (ps : List Open) (ks : List TokenKind) → after (braces ∷ part o c ∷ ps) (f (SignToken Comma ∷ ks)) ≡ after (braces ∷ part o (max c h) ∷ ps) ks

-- a token in braces
in_braces_by : (b : Bool) (ps : List Open) → (if b then count (braces ∷ ps) else braces ∷ ps) ≡ braces ∷ ps
in_braces_by true ps = refl
in_braces_by false ps = refl

label_in_braces : (n : List ℕ) (ps : List Open) (ks : List TokenKind) → after (braces ∷ ps) (Name n ∷ ks) ≡ after (braces ∷ ps) ks
label_in_braces n ps ks = ap (λ qs. after qs ks) (name_plainly (name_kind n) (name_kind_is n) (braces ∷ ps) ∙ in_braces_by (is_counted (name_kind n)) ps)

matcher_in_braces : (m : MatchText) (ps : List Open) (ks : List TokenKind) → after (braces ∷ ps) (matcher_kinds m ks) ≡ after (braces ∷ ps) ks
matcher_in_braces m ps ks = label_in_braces m.label ps (match_kind m.op ∷ TextToken m.text ∷ ks) ∙ by_sign m.op m.text
  where
    by_sign : (s : MatchSign) (t : List ℕ) → after (braces ∷ ps) (match_kind s ∷ TextToken t ∷ ks) ≡ after (braces ∷ ps) ks
    by_sign EqualMatch t = refl
    by_sign NotEqualMatch t = refl
    by_sign LikeMatch t = refl
    by_sign NotLikeMatch t = refl

same_braced : (o c d : ℕ) (ps : List Open) (ks : List TokenKind) → c ≡ d → after (braces ∷ part o c ∷ ps) ks ≡ after (braces ∷ part o d ∷ ps) ks
same_braced o c d ps ks e = ap (λ n. after (braces ∷ part o n ∷ ps) ks) e

no_matchers : Braced 1 (λ ks. ks)
no_matchers = record { closes = λ o c ps ks. refl; goes_on = λ o c ps ks. refl }

one_matcher : (m : MatchText) → Braced 1 (λ ks. matcher_kinds m ks)
one_matcher m = record {
  closes = λ o c ps ks. matcher_in_braces m (part o c ∷ ps) (SignToken RightBrace ∷ ks);
  goes_on = λ o c ps ks. matcher_in_braces m (part o c ∷ ps) (SignToken Comma ∷ ks);
}

one_more_matcher : (m : MatchText) {f : K} → Braced 1 f → Braced 1 (λ ks. f (SignToken Comma ∷ matcher_kinds m ks))
one_more_matcher m {f} l = let y = one_matcher m in record {
  closes = λ o c ps ks. l.goes_on o c ps (matcher_kinds m (SignToken RightBrace ∷ ks)) ∙ y.closes o (max c 1) ps ks ∙ same_part o (max (max c 1) 1) o (max c 1) ps ks refl (omega arith);
  goes_on = λ o c ps ks. l.goes_on o c ps (matcher_kinds m (SignToken Comma ∷ ks)) ∙ y.goes_on o (max c 1) ps ks ∙ same_braced o (max (max c 1) 1) (max c 1) ps ks (omega arith);
}

matchers_go_on : (ms : List MatchText) {f : K} → Braced 1 f → Braced 1 (λ ks. f (following_matchers ms ks))
matchers_go_on [] l = l
matchers_go_on (m ∷ ms) {f} l = matchers_go_on ms (one_more_matcher m l)

matchers_braced : (ms : List MatchText) → Braced 1 (λ ks. matchers_kinds ms ks)
matchers_braced [] = no_matchers
matchers_braced (m ∷ ms) = matchers_go_on ms (one_matcher m)

braces_add : (ms : List MatchText) → Adds 0 1 (λ ks. braces_kinds ms ks)
braces_add ms = let l = matchers_braced ms in record { does = λ o c ps ks. l.closes o c ps ks ∙ same_part o (max c 1) (o + 0) (max c 1) ps ks (omega arith) refl }

-- selectors, ranges and subqueries
no_operator : (n : List ℕ) (b : Bool) → is_counted (name_kind n) ≡ b → b ≡ false → Adds 0 0 (λ ks. Name n ∷ ks)
no_operator n b e h = uncounted (Name n) (name_plainly (name_kind n) (name_kind_is n)) (e ∙ h)

offset_adds : (ms : ℕ) (z : Bool) → Adds 0 0 (λ ks. if z then ks else Name (codes "offset") ∷ Duration ms ∷ ks)
offset_adds ms true = nothing_adds
offset_adds ms false = chain (a_word_of (codes "offset") (Word Offset) word_offset refl) (a_duration ms)

a_sign_kept : (s : SignOf) → Plainly (Sign s) → is_counted (Sign s) ≡ false → Adds 0 0 (λ ks. SignToken s ∷ ks)
a_sign_kept s p e = uncounted (SignToken s) p e

left_bracket : Adds 0 0 (λ ks. SignToken LeftBracket ∷ ks)
left_bracket = a_sign_kept LeftBracket (λ ps. refl) refl

right_bracket : Adds 0 0 (λ ks. SignToken RightBracket ∷ ks)
right_bracket = a_sign_kept RightBracket (λ ps. refl) refl

colon : Adds 1 0 (λ ks. SignToken Colon ∷ ks)
colon = counted (SignToken Colon) (λ ps. refl) refl

step_adds : (step : Option ℕ) → Adds 0 0 (λ ks. step_kinds step ks)
step_adds None = nothing_adds
step_adds (Some ms) = a_duration ms

pub span_adds : (span offset : ℕ) → Adds 0 0 (λ ks. span_kinds span offset ks)
span_adds span offset = chain left_bracket (chain (a_duration span) (chain right_bracket (offset_adds offset (offset == 0))))

pub sub_adds : (span : ℕ) (step : Option ℕ) (offset : ℕ) → Adds 1 0 (λ ks. sub_kinds span step offset ks)
sub_adds span step offset = chain left_bracket (chain (a_duration span) (chain colon (chain (step_adds step) (chain right_bracket (offset_adds offset (offset == 0))))))

-- the name of a selector is no operator
abbrev pub IsPlainName : List ℕ → Type 0
IsPlainName n = is_counted (name_kind n) ≡ false

abbrev pub HasPlainName : Option (List ℕ) → Type 0
HasPlainName (Some n) = IsPlainName n
HasPlainName None = Unit {0}

selected_adds : (name : Option (List ℕ)) (ms : List MatchText) → HasPlainName name → Few 1 (λ ks. selected_kinds name ms ks)
selected_adds None ms h = record { height = 1; few = omega arith; adds = braces_add ms }
selected_adds (Some n) [] h = record { height = 0; few = omega arith; adds = no_operator n (is_counted (name_kind n)) refl h }
selected_adds (Some n) (m ∷ ms) h = record { height = 1; few = omega arith; adds = chain (no_operator n (is_counted (name_kind n)) refl h) (braces_add (m ∷ ms)) }

few_more : {most : ℕ} {f g : K} → Few most f → Adds 0 0 g → Few most (λ ks. f (g ks))
few_more x y = let s = x.few in record { height = max x.height 0; few = omega (arith, s); adds = chain x.adds y }

pub select_adds : (s : Selector) → HasPlainName s.name → Few 1 (λ ks. select_kinds s ks)
select_adds s h = few_more (selected_adds s.name s.matchers h) (offset_adds s.offset (s.offset == 0))

pub range_adds : (s : Selector) (span : ℕ) → HasPlainName s.name → Few 1 (λ ks. selected_kinds s.name s.matchers (span_kinds span s.offset ks))
range_adds s span h = few_more (selected_adds s.name s.matchers h) (span_adds span s.offset)

-- numbers: the sign of an infinity is an operator
pub number_adds : (v : Num) → (a : ℕ) × ((a ≤ 1) × Adds a 0 (λ ks. number_kinds v ks))
number_adds (Finite (pos n)) = (0, (omega arith, uncounted (NumberToken (Finite (pos n))) (λ ps. refl) refl))
number_adds (Finite (negsuc n)) = (1, (omega arith, chain (counted (SignToken Minus) (λ ps. refl) refl) (uncounted (NumberToken (Finite (pos (suc n)))) (λ ps. refl) refl)))
number_adds NaN = (0, (omega arith, a_word_of (codes "NaN") (Word NaNWord) word_nan refl))
number_adds PosInf = (1, (omega arith, chain (counted (SignToken Plus) (λ ps. refl) refl) (a_word_of (codes "Inf") (Word Inf) word_inf refl)))
number_adds NegInf = (1, (omega arith, chain (counted (SignToken Minus) (λ ps. refl) refl) (a_word_of (codes "Inf") (Word Inf) word_inf refl)))

pub text_adds : (t : List ℕ) → Adds 0 0 (λ ks. TextToken t ∷ ks)
text_adds t = uncounted (TextToken t) (λ ps. refl) refl

pub minus_adds : Adds 1 0 (λ ks. SignToken Minus ∷ ks)
minus_adds = counted (SignToken Minus) (λ ps. refl) refl

-- an operator with what stands before its right side
is_op : (o : BinOp) → is_counted (kind_of (op_kind o)) ≡ true
unfolding word_of words is_word word_text
is_op Or = refl
is_op _ = refl

op_plainly : (o : BinOp) → Plainly (kind_of (op_kind o))
unfolding word_of words is_word word_text
op_plainly Or ps = refl
op_plainly _ ps = refl

op_adds : (o : BinOp) → Adds 1 0 (λ ks. op_kind o ∷ ks)
op_adds o = counted (op_kind o) (op_plainly o) (is_op o)

bool_adds : (b : Bool) → Adds 0 0 (λ ks. bool_kinds b ks)
bool_adds true = a_word_of (codes "bool") (Word BoolWord) word_bool refl
bool_adds false = nothing_adds

on_adds : (on : Bool) → Adds 0 0 (λ ks. on_kind on ∷ ks)
on_adds true = a_word_of (codes "on") (Word On) word_on refl
on_adds false = a_word_of (codes "ignoring") (Word Ignoring) word_ignoring refl

few_after : {most : ℕ} {f g : K} → Adds 0 0 f → Few most g → Few most (λ ks. f (g ks))
few_after x y = let s = y.few in record { height = max 0 y.height; few = omega (arith, s); adds = chain x y.adds }

few_both : {most : ℕ} {f g : K} → Few most f → Few most g → Few most (λ ks. f (g ks))
few_both x y = let s = x.few in let t = y.few in record { height = max x.height y.height; few = omega (arith, s, t); adds = chain x.adds y.adds }

few_none : {most : ℕ} → Few most (λ ks. ks)
few_none = record { height = 0; few = omega arith; adds = nothing_adds }

side_adds : (card : Card) (include : List (List ℕ)) → Few 2 (λ ks. side_kinds card include ks)
side_adds OneToOne include = few_none
side_adds ManyToOne include = few_after (a_word_of (codes "group_left") (Word GroupLeft) word_left refl) (labels_add include)
side_adds OneToMany include = few_after (a_word_of (codes "group_right") (Word GroupRight) word_right refl) (labels_add include)

-- whether there is a matching decides whether there are labels
abbrev pub most_of : Option Matching → ℕ
most_of None = 0
most_of (Some m) = 2

pub matching_adds : (m : Option Matching) → Few (most_of m) (λ ks. matching_kinds m ks)
matching_adds None = few_none
matching_adds (Some m) = few_after (on_adds m.on) (few_both (labels_add m.names) (side_adds m.card m.include))

pub turn_adds : (o : BinOp) (b : Bool) (m : Option Matching) → (h : ℕ) × ((h ≤ most_of m) × Adds 1 h (λ ks. op_kind o ∷ bool_kinds b (matching_kinds m ks)))
turn_adds o b m = let x = matching_adds m in let s = x.few in (max 0 (max 0 x.height), (omega (arith, s), chain (op_adds o) (chain (bool_adds b) x.adds)))

-- calls and aggregations
pub func_adds : (f : Func) → Adds 0 0 (λ ks. Name (func_text f) ∷ ks)
func_adds f = a_word_of (func_text f) (Function f) (func_kind f) refl

agg_uncounted : (o : AggOp) → is_counted (Word (agg_word o)) ≡ false
agg_uncounted Sum = refl
agg_uncounted _ = refl

pub agg_adds : (o : AggOp) → Adds 0 0 (λ ks. Name (agg_text o) ∷ ks)
agg_adds o = a_word_of (agg_text o) (Word (agg_word o)) (agg_kind o) (agg_uncounted o)

pub by_adds : (by : Bool) (ns : List (List ℕ)) → Few 2 (λ ks. by_kinds by ns ks)
by_adds true [] = few_none
by_adds true (n ∷ ns) = few_after (a_word_of (codes "by") (Word By) word_by refl) (labels_add (n ∷ ns))
by_adds false ns = few_after (a_word_of (codes "without") (Word Without) word_without refl) (labels_add ns)
