-- What the first tokens of a text say of all.
use Rattle.std.proofs.Common.{◌≡◌, ℕ, zero, suc, ◌≤◌, ◌<◌, List, [], ◌∷◌, ◌++◌, take, drop, length, Option, None, refl, ap, sym, ◌∙◌, subst, arith}
use Rattle.std.specs.Prelude.{slice_get, Result, MatchResult, IfOk, IfErr}
use Rattle.std.proofs.lemmas.List.{take-append-le, take-append-drop, map-append, length-map, take-map, length-take, length-append, take_all}
use Rattle.std.proofs.lemmas.Result.{MatchResult-weaker, IfOk-weaker, IfErr-weaker}
use Rattle.pr_forms.specs.Form.{rule, Reads}
use Rattle.pr_ast.specs.declared.lex.token.Token.{Token}
use Rattle.pr_ast.specs.declared.lex.fault.LexError.{LexError}
use Rattle.pr_ast.specs.declared.lex.fault.LexError.TheVariants.{Fault as LexFault, Memory as LexMemory}
use Rattle.pr_ast.specs.Tokens.{HasTokens, HasFirst}
use Rattle.pr_ast.specs.private.Reader.{Refuses as RefusesLex, Misses as MissesLex}
use Rattle.pr_ast.proofs.Unique.{one_list}
use Rattle.pr_ast.specs.declared.tree.Expr.{Expr}
use Rattle.pr_ast.specs.Tree.{Tree, tree_of}
use Rattle.pr_parse.specs.declared.grammar.kind.TokenClass.{TokenClass}
use Rattle.pr_parse.specs.declared.grammar.kind.Lexed.{Lexed}
use Rattle.pr_parse.specs.Seen.{Seen, see, seen_token, seen_tokens, kind_seen, seen, kinds_of, kinds_seen}
use Rattle.pr_parse.specs.Grammar.{production, expression, QueryValue, part}
use Rattle.pr_parse.specs.GrammarWhole.{Derives, IsBadPlace}
use Rattle.pr_parse.specs.declared.fault.ParseError.{ParseError}
use Rattle.pr_parse.specs.declared.fault.ParseError.TheVariants.{Lex, Fault, Memory}
use Rattle.pr_parse.specs.declared.fault.ParseKind.TheVariants.{TooDeep}
use Rattle.pr_parse.specs.declared.fault.Names.TheVariants.{Elsewhere}
use Rattle.pr_parse.specs.private.Whole.{HasTree}
use Rattle.pr_parse.specs.Deep.{depth, IsTooDeep}
use Rattle.pr_parse.specs.Faults.{kind_at, kind_by, names_from, kind_before, second_before}
use Rattle.pr_parse.specs.Derived.{start_of, fault_of, IsFault, RefusesSeen, IsExpression, Refuses, Misses}
use Rattle.pr_parse.specs.private.Front.{HasFront, token_fault}
use Rattle.pr_parse.proofs.Judged.{kinds_same, kinds_length, seen_front, early_fault, deep_fault, not_shallow}

-- a text that has no tokens is refused so
pub token_refuses : (text : List ℕ) (f : LexError) (e : ParseError) → e ≡ token_fault f → RefusesLex text f → Refuses text e
token_refuses text (LexFault at kind) e h r = subst (Refuses text) (sym h) r
token_refuses text LexMemory e h r = subst (Refuses text) (sym h) tt

pub token_misses : (f : LexError) (e : ParseError) → e ≡ token_fault f → MissesLex f → Misses e
token_misses (LexFault at kind) e h m = absurd m
token_misses LexMemory e h m = subst Misses (sym h) tt

get_front : {X : Type 0} (xs ys : List X) (i : ℕ) → i < length xs → slice_get (xs ++ ys) i ≡ slice_get xs i
get_front [] ys i h = absurd (omega arith)
get_front (x ∷ xs) ys zero h = refl
get_front (x ∷ xs) ys (suc i) h = get_front xs ys i (omega (arith, h))

before_front : (ks more : List TokenClass) (i : ℕ) → i < length ks → kind_before (ks ++ more) i ≡ kind_before ks i
before_front ks more zero h = refl
before_front ks more (suc i) h = get_front ks more i (omega (arith, h))

second_front : (ks more : List TokenClass) (i : ℕ) → i < length ks → second_before (ks ++ more) i ≡ second_before ks i
second_front ks more zero h = refl
second_front ks more (suc i) h = before_front ks more i (omega (arith, h))

-- the kind of a fault in a front
kind_front : (ks more : List TokenClass) (i : ℕ) → i < length ks → kind_at (ks ++ more) i ≡ kind_at ks i
kind_front ks more i h =
    ap (λ x. kind_by (names_from Elsewhere None x) (kind_before (ks ++ more) i) (second_before (ks ++ more) i) (slice_get (ks ++ more) i)) (take-append-le i ks more (omega (arith, h)))
    ∙ (ap (λ x. kind_by (names_from Elsewhere None (take i ks)) x (second_before (ks ++ more) i) (slice_get (ks ++ more) i)) (before_front ks more i h)
    ∙ (ap (λ x. kind_by (names_from Elsewhere None (take i ks)) (kind_before ks i) x (slice_get (ks ++ more) i)) (second_front ks more i h)
    ∙ ap (λ x. kind_by (names_from Elsewhere None (take i ks)) (kind_before ks i) (second_before ks i) x) (get_front ks more i h)))

-- a token that makes a front too deep makes all too deep
deep_kinds : (ks more : List TokenClass) (deep : ℕ) → IsTooDeep ks deep → IsTooDeep (ks ++ more) deep
deep_kinds ks more deep t =
    let w = t.within in
    record {
      within = omega (arith, length-append ks more, w);
      before = subst (λ x. depth x ≤ 100) (sym (take-append-le deep ks more (omega (arith, w)))) t.before;
      after = subst (λ x. 100 < depth x) (sym (take-append-le (suc deep) ks more (omega (arith, w)))) t.after;
    }

deep_front : (ts more : List Seen) (deep : ℕ) → IsTooDeep (kinds_seen ts) deep → IsTooDeep (kinds_seen (ts ++ more)) deep
deep_front ts more deep t = subst (λ ks. IsTooDeep ks deep) (sym (map-append kind_seen ts more)) (deep_kinds (kinds_seen ts) (kinds_seen more) deep t)

module _ (end : ℕ) (ts : List Lexed) (rest : List Seen) (deep m n : ℕ) (e : ParseError) (t : IsTooDeep (kinds_seen (seen ts)) deep) (q : m ≡ suc deep) (p : IsBadPlace (seen (take m ts)) n) where
  within : deep < length (seen ts)
  within = let w = t.within in omega (arith, w, kinds_length (seen ts))

  place : IsBadPlace (take (suc deep) (seen ts ++ rest)) n
  place = subst (λ us. IsBadPlace us n) (ap (λ x. seen (take x ts)) q ∙ (seen_front (suc deep) ts ∙ sym (take-append-le (suc deep) (seen ts) rest (let w = within in omega (arith, w))))) p

  same_start : (i : ℕ) → i < length (seen ts) → slice_get (seen ts) i ≡ slice_get (seen ts ++ rest) i
  same_start i h = sym (get_front (seen ts) rest i h)

  same_kind : (i : ℕ) → i < length (seen ts) → kind_at (kinds_of ts) i ≡ kind_at (kinds_seen (seen ts ++ rest)) i
  same_kind i h =
      ap (λ ks. kind_at ks i) (kinds_same ts)
      ∙ (sym (kind_front (kinds_seen (seen ts)) (kinds_seen rest) i (omega (arith, h, kinds_length (seen ts)))) ∙ ap (λ ks. kind_at ks i) (sym (map-append kind_seen (seen ts) rest)))

  -- an earlier bad token, whatever follows
  pub early_front : n ≤ deep → e ≡ fault_of end (seen ts) n (kind_at (kinds_of ts) n) → RefusesSeen end (seen ts ++ rest) e
  early_front h x =
      let w = within in
      let l : n < length (seen ts) = omega (arith, h, w) in
      subst (RefusesSeen end (seen ts ++ rest))
      (sym (x ∙ (ap (λ o. Fault (start_of end o) (kind_at (kinds_of ts) n)) (same_start n l) ∙ ap (λ k. Fault (start_of end (slice_get (seen ts ++ rest) n)) k) (same_kind n l))))
      (early_fault end (seen ts ++ rest) deep n (deep_front (seen ts) rest deep t) place h)

  -- the token that makes all too deep, whatever follows
  pub late_front : deep < n → e ≡ fault_of end (seen ts) deep TooDeep → RefusesSeen end (seen ts ++ rest) e
  late_front h x =
      subst (RefusesSeen end (seen ts ++ rest)) (sym (x ∙ ap (λ o. Fault (start_of end o) TooDeep) (same_start deep within)))
      (deep_fault end (seen ts ++ rest) deep n (deep_front (seen ts) rest deep t) place h)

-- the tokens of a text with their kinds
pub record HasSeen (text : List ℕ) (ts : List Seen) : Type 0 where
  pub tokens : List Token
  pub has : HasTokens text tokens
  pub is : ts ≡ seen_tokens tokens

taken_short : (n : ℕ) (ts : List Seen) → length (take n ts) < n → take n ts ≡ ts
taken_short n ts h = take_all n ts (omega (arith, h, length-take n ts))

-- fewer tokens than were asked for are all
pub short_front : (text : List ℕ) (most : ℕ) (front : List Lexed) → HasFront text most (seen front) → length front < most → HasSeen text (seen front)
short_front text most front f h =
    let l : length (seen front) < most = omega (arith, h, length-map front see) in
    record {
      tokens = f.tokens;
      has = f.has;
      is = f.is ∙ taken_short most (seen_tokens f.tokens) (subst (λ ts. length ts < most) f.is l);
    }

whole_front : (text : List ℕ) (most : ℕ) (front : List Seen) (f : HasFront text most front) → HasSeen text (front ++ drop most (seen_tokens f.tokens))
whole_front text most front f = record {
  tokens = f.tokens;
  has = f.has;
  is = ap (λ us. us ++ drop most (seen_tokens f.tokens)) f.is ∙ take-append-drop most (seen_tokens f.tokens);
}

-- the tokens of an expression are those of its text
its_tokens : (text : List ℕ) (ts : List Seen) → HasSeen text ts → (tree : Tree) → (x : IsExpression text tree) → seen_tokens x.tokens ≡ ts
its_tokens text ts s tree x = ap seen_tokens (one_list x.has s.has) ∙ sym s.is

seen_expression : (text : List ℕ) (ts : List Seen) → HasSeen text ts → (tree : Tree) → Derives ts tree × (depth (kinds_seen ts) ≤ 100) → IsExpression text tree
seen_expression text ts s tree d = record {
  tokens = s.tokens;
  has = s.has;
  derives = subst (λ us. Derives us tree) s.is d.0;
  shallow = subst (λ us. depth (kinds_seen us) ≤ 100) s.is d.1;
}

seen_refuses : (text : List ℕ) (ts : List Seen) → HasSeen text ts → (e : ParseError) → RefusesSeen (length text) ts e → Refuses text e
seen_refuses text ts s (Lex at kind) r = absurd r
seen_refuses text ts s (Fault at kind) r = record { tokens = s.tokens; has = s.has; fault = subst (λ us. IsFault (length text) us at kind) s.is r }
seen_refuses text ts s Memory r = tt

pub seen_tree : (text : List ℕ) (ts : List Seen) → HasSeen text ts → (r : Result Expr ParseError) →
    IfOk r (λ e. Derives ts (tree_of e) × (depth (kinds_seen ts) ≤ 100)) → IfOk r (λ e. IsExpression text (tree_of e))
seen_tree text ts s r h =
    IfOk-weaker r (λ e. Derives ts (tree_of e) × (depth (kinds_seen ts) ≤ 100)) (λ e. IsExpression text (tree_of e)) (λ e d. seen_expression text ts s (tree_of e) d) h

pub seen_fault : (text : List ℕ) (ts : List Seen) → HasSeen text ts → (r : Result Expr ParseError) → IfErr r (RefusesSeen (length text) ts) → IfErr r (Refuses text)
seen_fault text ts s r h = IfErr-weaker r (RefusesSeen (length text) ts) (Refuses text) (λ e f. seen_refuses text ts s e f) h

pub seen_only : (text : List ℕ) (ts : List Seen) → HasSeen text ts → (r : Result Expr ParseError) →
    ((v : QueryValue) → Reads production (rule expression) ts v [] → depth (kinds_seen ts) ≤ 100 → MatchResult r (λ e. HasTree v (tree_of e)) Misses) →
    (tree : Tree) → IsExpression text tree → MatchResult r (λ e. tree_of e ≡ tree) Misses
seen_only text ts s r only tree x =
    let same = its_tokens text ts s tree x in
    let d : Derives ts tree = subst (λ us. Derives us tree) same x.derives in
    let low : depth (kinds_seen ts) ≤ 100 = subst (λ us. depth (kinds_seen us) ≤ 100) same x.shallow in
    MatchResult-weaker r (only (part d.0 tree) d.1 low) (λ e h. sym h) (λ e h. h)

-- a text whose front is too deep is no expression
pub front_too_deep : (text : List ℕ) (most : ℕ) (front : List Seen) (deep : ℕ) → HasFront text most front → IsTooDeep (kinds_seen front) deep → (tree : Tree) → IsExpression text tree → ⊥
front_too_deep text most front deep f t tree x =
    let all = front ++ drop most (seen_tokens f.tokens) in
    not_shallow (kinds_seen all) deep (deep_front front (drop most (seen_tokens f.tokens)) deep t)
    (subst (λ us. depth (kinds_seen us) ≤ 100) (its_tokens text all (whole_front text most front f) tree x) x.shallow)

pub front_refuses : (text : List ℕ) (most : ℕ) (front : List Seen) (e : ParseError) → HasFront text most front → ((rest : List Seen) → RefusesSeen (length text) (front ++ rest) e) → Refuses text e
front_refuses text most front e f r = seen_refuses text (front ++ drop most (seen_tokens f.tokens)) (whole_front text most front f) e (r (drop most (seen_tokens f.tokens)))

-- the front of the tokens with their kinds is that of the tokens
pub seen_first : (text : List ℕ) (most : ℕ) (found : List Token) (front : List Seen) → HasFirst text most found → front ≡ seen_tokens found → HasFront text most front
seen_first text most found front f e = record { tokens = f.tokens; has = f.has; is = e ∙ (ap seen_tokens f.is ∙ sym (take-map seen_token most f.tokens)) }
