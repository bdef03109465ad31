-- What the tokens tell is how the grammar reads them; and where a fault is that of an unknown
-- function.
use Rattle.std.proofs.Common.{◌≡◌, ℕ, zero, suc, ◌≤◌, ◌<◌, ◌-◌, Bool, true, false, Option, Some, None, List, [], ◌∷◌, ◌++◌, length, take, drop, refl, ap, sym, ◌∙◌, subst, arith, length-drop}
use Rattle.std.specs.Prelude.{◌↔◌, slice_get, if◌then◌else◌}
use Rattle.pr_forms.specs.Form.{rule}
use Rattle.pr_ast.specs.declared.lex.token.Sign.TheVariants.{LeftParen, RightParen, RightBracket, Comma}
use Rattle.pr_ast.specs.declared.lex.words.Word.TheVariants.{And as AndWord}
use Rattle.pr_parse.specs.declared.grammar.kind.TokenClass.{TokenClass}
use Rattle.pr_parse.specs.declared.grammar.kind.TokenClass.TheVariants.{Word, Sign, OwnName, ZeroSpan}
use Rattle.pr_parse.specs.Seen.{Seen, lexed, kinds_seen}
use Rattle.pr_parse.specs.Grammar.{production, expression, QueryValue}
use Rattle.pr_parse.specs.GrammarWhole.{IsBadPlace}
use Rattle.pr_parse.specs.declared.fault.ParseKind.{ParseKind}
use Rattle.pr_parse.specs.declared.fault.ParseKind.TheVariants.{Unexpected, UnknownFunction, Misplaced, TwoNames, ZeroSpan as ZeroSpanFault}
use Rattle.pr_parse.specs.Faults.{names_after, names_from, is_called, begins_matcher, begins_span, ends_range, kind_by, kind_before, second_before, kind_at}
use Rattle.laws_language.specs.private.Named.{TakesLast, is_other_name, FollowsName, paren_kind, paren_after}
use Rattle.laws_language.proofs.Taking.{takes_last}
use Rattle.laws_language.proofs.Spots.{Names, TellsAs, open_spot, Path, stay, go, tells}
use Rattle.laws_language.proofs.SpotMoves.{elsewhere}
use Rattle.laws_language.proofs.SpotRules.{from, to, rules_lead}

-- the token before a place, or the one before all
abbrev last_of : Option TokenClass → List TokenClass → ℕ → Option TokenClass
last_of before ks zero = before
last_of before ks (suc n) = slice_get ks n

-- what stands at the end of a path, by how many tokens it goes over
record PathEnd (names : Names) (before : Option TokenClass) (ts : List Seen) (last : Names) (end : Option TokenClass) (rest : List Seen) : Type 0 where
  count : ℕ
  within : count ≤ length ts
  same : length rest ≡ length ts - count
  last_is : last ≡ names_from names before (take count (kinds_seen ts))
  end_is : end ≡ last_of before (kinds_seen ts) count

later : (k : TokenClass) (ks : List TokenClass) (before : Option TokenClass) (n : ℕ) → last_of (Some k) ks n ≡ last_of before (k ∷ ks) (suc n)
later k ks before zero = refl
later k ks before (suc n) = refl

path_ends : {names last : Names} {before end : Option TokenClass} {ts rest : List Seen} → Path names before ts last end rest → PathEnd names before ts last end rest
path_ends stay = record { count = 0; within = omega arith; same = omega arith; last_is = refl; end_is = refl }
path_ends (go {before = before} {k = k} {t = t} {ts = ts} p) = let e = path_ends p in record {
  count = suc e.count;
  within = let h = e.within in omega arith;
  same = let h = e.same in omega arith;
  last_is = e.last_is;
  end_is = e.end_is ∙ later k (kinds_seen ts) before e.count;
}

before_is : (ks : List TokenClass) (n : ℕ) → last_of None ks n ≡ kind_before ks n
before_is ks zero = refl
before_is ks (suc n) = refl

in_text : (ks : List TokenClass) (n : ℕ) (k : TokenClass) → slice_get ks n ≡ Some k → n < length ks
in_text [] n k e = absurd (cc)
in_text (x ∷ ks) zero k e = omega arith
in_text (x ∷ ks) (suc n) k e = let h = in_text ks n k e in omega arith

kinds_length : (ts : List Seen) → length (kinds_seen ts) ≡ length ts
kinds_length [] = refl
kinds_length (lexed k t ∷ ts) = ap suc (kinds_length ts)

-- where names stand as at the start of a text, the tokens from there on tell how names are read
told_from : (names : Names) → TellsAs open_spot names → (ts : List Seen) (place : ℕ) (v : QueryValue) → place ≤ length ts → TakesLast production (rule expression) ts v (drop place ts) →
    is_called (names_from names None (take place (kinds_seen ts))) (kind_before (kinds_seen ts) place) ≡ is_other_name (kind_before (kinds_seen ts) place) v
told_from names start ts place v h d =
    let x = tells from to production rules_lead d (from expression) (to expression) (refl, refl) names None (start, refl) in
    let e = path_ends x.path in
    let n : e.count ≡ place = (let i = e.within in let s = e.same in let l = length-drop place ts in omega arith) in
    let last : x.last ≡ names_from names None (take place (kinds_seen ts)) = e.last_is ∙ ap (λ m. names_from names None (take m (kinds_seen ts))) n in
    let end : x.end ≡ kind_before (kinds_seen ts) place = e.end_is ∙ before_is (kinds_seen ts) e.count ∙ ap (kind_before (kinds_seen ts)) n in
    sym (ap (λ m. is_called m (kind_before (kinds_seen ts) place)) last) ∙ sym (ap (is_called x.last) end) ∙ x.told ∙ ap (λ k. is_other_name k v) end

paren_by : (names : Names) (before second here : Option TokenClass) (b : Bool) → here ≡ Some (Sign LeftParen) → is_called names before ≡ b → kind_by names before second here ≡ (if b then UnknownFunction else Unexpected)
paren_by names before second here b e h = rw (e, h) refl

paren_told : (names : Names) → TellsAs open_spot names → (ts : List Seen) (place : ℕ) (v : QueryValue) → TakesLast production (rule expression) ts v (drop place ts) → slice_get (kinds_seen ts) place ≡ Some (Sign LeftParen) →
    kind_by (names_from names None (take place (kinds_seen ts))) (kind_before (kinds_seen ts) place) (second_before (kinds_seen ts) place) (slice_get (kinds_seen ts) place) ≡ paren_kind (kind_before (kinds_seen ts) place) v
paren_told names start ts place v d e =
    let h : place ≤ length ts = (let i = in_text (kinds_seen ts) place (Sign LeftParen) e in let l = kinds_length ts in omega arith) in
    paren_by _ (kind_before (kinds_seen ts) place) (second_before (kinds_seen ts) place) (slice_get (kinds_seen ts) place) (is_other_name (kind_before (kinds_seen ts) place) v) e (told_from names start ts place v h d)

start_told : (names : Names) → names_after names None (Sign RightParen) ≡ names → (ts : List Seen) (place : ℕ) (v : QueryValue) → TakesLast production (rule expression) ts v (drop place ts) → slice_get (kinds_seen ts) place ≡ Some (Sign LeftParen) →
    kind_by (names_from names None (take place (kinds_seen ts))) (kind_before (kinds_seen ts) place) (second_before (kinds_seen ts) place) (slice_get (kinds_seen ts) place) ≡ paren_kind (kind_before (kinds_seen ts) place) v
start_told names is ts place v d e = paren_told names (subst (λ n. TellsAs open_spot n) is (elsewhere names None)) ts place v d e

pub told : (ts : List Seen) (place : ℕ) (v : QueryValue) → TakesLast production (rule expression) ts v (drop place ts) → slice_get (kinds_seen ts) place ≡ Some (Sign LeftParen) → kind_at (kinds_seen ts) place ≡ paren_kind (kind_before (kinds_seen ts) place) v
told ts place v d e = start_told _ refl ts place v d e

is_named : (b : Bool) → (if b then UnknownFunction else Unexpected) ≡ UnknownFunction → b ≡ true
is_named true e = refl
is_named false e = absurd (cc)

never : (b : Bool) (k : ParseKind) → (k ≡ UnknownFunction → ⊥) → (if b then k else Unexpected) ≡ UnknownFunction → ⊥
never true k h e = h e
never false k h e = cc

unknown_is : (names : Names) (before second here : Option TokenClass) → kind_by names before second here ≡ UnknownFunction → (here ≡ Some (Sign LeftParen)) × (is_called names before ≡ true)
unknown_is names before second None e = absurd (cc)
unknown_is names before second (Some (Sign LeftParen)) e = (refl, is_named (is_called names before) e)
unknown_is names before second (Some (Sign RightBracket)) e = absurd (never (ends_range before second) Misplaced (λ h. cc) e)
unknown_is names before second (Some OwnName) e = absurd (never (begins_matcher names before) TwoNames (λ h. cc) e)
unknown_is names before second (Some ZeroSpan) e = absurd (never (begins_span before) ZeroSpanFault (λ h. cc) e)
unknown_is names before second (Some (Word AndWord)) e = absurd (cc)
unknown_is names before second (Some (Sign Comma)) e = absurd (cc)
unknown_is names before second _ e = absurd (cc)

paren_there : (ks : List TokenClass) (place : ℕ) → kind_at ks place ≡ UnknownFunction → slice_get ks place ≡ Some (Sign LeftParen)
paren_there ks place e = (unknown_is _ (kind_before ks place) (second_before ks place) (slice_get ks place) e).0

none_in : (names : Names) → names_after names None (Sign RightParen) ≡ names → (here : Option TokenClass) → kind_by names None None here ≡ UnknownFunction → ⊥
none_in names is here e =
    let h : is_called names None ≡ true = (unknown_is names None None here e).1 in
    let f : false ≡ is_called names None = ap (λ n. is_called n None) is in
    true_false (f ∙ h)
  where
    true_false : false ≡ true → ⊥
    true_false e = cc

none_at_first : (ks : List TokenClass) → kind_at ks zero ≡ UnknownFunction → ⊥
none_at_first ks e = none_in _ refl (slice_get ks zero) e

named_by : (ts : List Seen) (place : ℕ) → kind_at (kinds_seen ts) place ≡ UnknownFunction → ((v : QueryValue) × TakesLast production (rule expression) ts v (drop place ts)) → FollowsName ts place
named_by ts place e x = record {
  value = x.0;
  takes = x.1;
  named = is_named (is_other_name (kind_before (kinds_seen ts) place) x.0) (sym (told ts place x.0 x.1 (paren_there (kinds_seen ts) place e)) ∙ e);
}

follows : (ts : List Seen) (place : ℕ) → IsBadPlace ts place → kind_at (kinds_seen ts) place ≡ UnknownFunction → FollowsName ts place
follows ts zero bad e = absurd (none_at_first (kinds_seen ts) e)
follows ts (suc n) bad e = named_by ts (suc n) e (takes_last production (rule expression) ts n (let w = bad.within in omega arith) (bad.before (suc n) (omega arith)))

paren_of : (b : Bool) → b ≡ true → (if b then UnknownFunction else Unexpected) ≡ UnknownFunction
paren_of b e = rw e refl

pub unknown : (ts : List Seen) (place : ℕ) → IsBadPlace ts place → (kind_at (kinds_seen ts) place ≡ UnknownFunction) ↔ ((slice_get (kinds_seen ts) place ≡ Some (Sign LeftParen)) × FollowsName ts place)
unknown ts place bad = (
  λ e. (paren_there (kinds_seen ts) place e, follows ts place bad e),
  λ x. told ts place x.1.value x.1.takes x.0 ∙ paren_of (is_other_name (kind_before (kinds_seen ts) place) x.1.value) x.1.named,
)

-- the tokens before a place, with another one there
front_take : (n : ℕ) (ks : List TokenClass) (x : TokenClass) → n ≤ length ks → take n (take n ks ++ x ∷ []) ≡ take n ks
front_take zero ks x h = refl
front_take (suc n) [] x h = absurd (omega arith)
front_take (suc n) (k ∷ ks) x h = ap (λ ys. k ∷ ys) (front_take n ks x (omega arith))

front_there : (n : ℕ) (ks : List TokenClass) (x : TokenClass) → n ≤ length ks → slice_get (take n ks ++ x ∷ []) n ≡ Some x
front_there zero ks x h = refl
front_there (suc n) [] x h = absurd (omega arith)
front_there (suc n) (k ∷ ks) x h = front_there n ks x (omega arith)

front_get : (n m : ℕ) (ks : List TokenClass) (x : TokenClass) → n ≤ length ks → m < n → slice_get (take n ks ++ x ∷ []) m ≡ slice_get ks m
front_get zero m ks x h l = absurd (omega arith)
front_get (suc n) m [] x h l = absurd (omega arith)
front_get (suc n) zero (k ∷ ks) x h l = refl
front_get (suc n) (suc m) (k ∷ ks) x h l = front_get n m ks x (omega arith) (omega arith)

front_before : (n : ℕ) (ks : List TokenClass) (x : TokenClass) → n ≤ length ks → kind_before (take n ks ++ x ∷ []) n ≡ kind_before ks n
front_before zero ks x h = refl
front_before (suc n) ks x h = front_get (suc n) n ks x h (omega arith)

paren_put : (names : Names) → names_after names None (Sign RightParen) ≡ names → (ts : List Seen) (place : ℕ) (v : QueryValue) (ks fs : List TokenClass) → ks ≡ kinds_seen ts → fs ≡ take place ks ++ Sign LeftParen ∷ [] →
    place ≤ length ts → TakesLast production (rule expression) ts v (drop place ts) →
    kind_by (names_from names None (take place fs)) (kind_before fs place) (second_before fs place) (slice_get fs place) ≡ paren_kind (kind_before ks place) v
paren_put names is ts place v ks fs a b h d =
    let l : place ≤ length ks = (let m = kinds_length ts in let n = ap length a in omega arith) in
    let start : TellsAs open_spot names = subst (λ n. TellsAs open_spot n) is (elsewhere names None) in
    let there : slice_get fs place ≡ Some (Sign LeftParen) = ap (λ us. slice_get us place) b ∙ front_there place ks (Sign LeftParen) l in
    let front : take place fs ≡ take place ks = ap (take place) b ∙ front_take place ks (Sign LeftParen) l in
    let before : kind_before fs place ≡ kind_before ks place = ap (λ us. kind_before us place) b ∙ front_before place ks (Sign LeftParen) l in
    let read : is_called (names_from names None (take place ks)) (kind_before ks place) ≡ is_other_name (kind_before ks place) v =
    subst (λ us. is_called (names_from names None (take place us)) (kind_before us place) ≡ is_other_name (kind_before us place) v) (sym a) (told_from names start ts place v h d) in
    paren_by _ (kind_before fs place) (second_before fs place) (slice_get fs place) (is_other_name (kind_before ks place) v) there
    (ap (λ us. is_called (names_from names None us) (kind_before fs place)) front ∙ ap (is_called (names_from names None (take place ks))) before ∙ read)

pub told_anywhere : (ts : List Seen) (place : ℕ) (v : QueryValue) → place ≤ length ts → TakesLast production (rule expression) ts v (drop place ts) → paren_after (kinds_seen ts) place ≡ paren_kind (kind_before (kinds_seen ts) place) v
told_anywhere ts place v h d = paren_put _ refl ts place v (kinds_seen ts) (take place (kinds_seen ts) ++ Sign LeftParen ∷ []) refl refl h d
