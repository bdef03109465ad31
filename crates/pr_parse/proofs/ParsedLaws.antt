-- What a text gives is its tree, or its first fault.
use Rattle.std.proofs.Common.{◌≡◌, ℕ, zero, suc, ◌≤◌, ◌<◌, nat_lt, Bool, true, false, Option, Some, None, List, [], ◌∷◌, length, take, drop, inl, inr, refl, ap, sym, ◌∙◌, subst, arith}
use Rattle.std.specs.Prelude.{slice_get, if◌then◌else◌, Result, Ok, Err, IfOk, IfErr, MatchResult}
use Rattle.std.proofs.Math.Seq.{take-length}
use Rattle.std.proofs.lemmas.Bool.{cases_lt}
use Rattle.std.proofs.lemmas.Bool.Decides.{nat_tests}
use Rattle.pr_forms.specs.Form.{rule, Reads, Begins, at_whole}
use Rattle.pr_forms.specs.Reading.{reading, bad_place}
use Rattle.pr_forms.proofs.Ending.{given_reads, reads_given, given_place}
use Rattle.pr_forms.proofs.Places.{one_place, cut_short}
use Rattle.pr_ast.specs.declared.lex.fault.LexKind.{LexKind}
use Rattle.pr_ast.specs.Tokens.{HasFault}
use Rattle.pr_ast.specs.Lexed.{Lexed, gives_tokens, gives_fault as gives_first_fault, lexed}
use Rattle.pr_ast.proofs.LexedLaws.{tokens_both, fault_both}
use Rattle.pr_ast.specs.declared.place.Place.{Place}
use Rattle.pr_ast.specs.declared.tree.Expr.{Expr}
use Rattle.pr_ast.specs.Tree.{Tree, tree_of}
use Rattle.pr_ast.specs.private.Steps.{has_steps}
use Rattle.pr_parse.proofs.StepsLaw.{read_has_steps}
use Rattle.pr_parse.specs.declared.fault.ParseError.{ParseError}
use Rattle.pr_parse.specs.declared.fault.ParseError.TheVariants.{Lex, Fault, Memory}
use Rattle.pr_parse.specs.declared.grammar.kind.TokenClass.{TokenClass}
use Rattle.pr_parse.specs.Seen.{Seen, seen_tokens, kinds_seen}
use Rattle.pr_parse.specs.Grammar.{production, expression, QueryValue, part}
use Rattle.pr_parse.specs.GrammarTable.{table, rank, steps}
use Rattle.pr_parse.proofs.Table.{known}
use Rattle.pr_parse.proofs.GrammarEnds.{ends}
use Rattle.pr_parse.specs.declared.fault.ParseKind.{ParseKind}
use Rattle.pr_parse.specs.declared.fault.ParseKind.TheVariants.{End, TooDeep}
use Rattle.pr_parse.specs.GrammarWhole.{Derives, IsBadPlace}
use Rattle.pr_parse.specs.Deep.{depth, fresh, IsTooDeep}
use Rattle.pr_parse.specs.Faults.{kind_at}
use Rattle.pr_parse.specs.Derived.{IsBadAt, bad_token, too_deep, too_early, start_of, IsFault, IsExpression, HasBadPlace, Refuses}
use Rattle.pr_parse.specs.Parsed.{Parsed, gives_tree, gives_lex_fault, gives_fault, deep_place, tree_or_fault, by_places, parsed_tokens, parsed_lexed, parsed, IsFaultOf}
use Rattle.pr_parse.proofs.Depths.{deep_low, deep_high}
use Rattle.pr_parse.proofs.Judged.{place_fault, front_shallow, end_kind, kinds_length, drop_all, none_there}

-- tokens that are read whole can go on to their end
whole_end : (ts : List Seen) (v : QueryValue) → Reads production (rule expression) ts v [] → IsBadPlace ts (length ts)
whole_end ts v d = record {
  within = omega arith;
  before = λ k h. cut_short production (rule expression) ts k (length ts) h (subst (λ r. Begins production (rule expression) ts r) (sym (drop_all ts (length ts) (omega arith))) (at_whole d));
  after = λ k lt le b. absurd (omega arith);
}

not_below : (a b : ℕ) → nat_lt a b ≡ false → b ≤ a
not_below a b e = grind (arith, nat_tests)

below : (a b : ℕ) → nat_lt a b ≡ true → a < b
below a b e = grind (arith, nat_tests)

is_not_below : (a b : ℕ) → b ≤ a → nat_lt a b ≡ false
is_not_below a b e = grind (arith, nat_tests)

is_below : (a b : ℕ) → a < b → nat_lt a b ≡ true
is_below a b e = grind (arith, nat_tests)

-- the depth before a place that no too deep token stands before
low_front : (ks : List TokenClass) (n : ℕ) → n ≤ deep_place ks → depth (take n ks) ≤ 100
low_front ks n h = deep_low (fresh false ∷ []) ks n h (omega arith)

whole_low : (ks : List TokenClass) → length ks ≤ deep_place ks → depth ks ≤ 100
whole_low ks h = subst (λ x. depth x ≤ 100) (take-length ks) (low_front ks (length ks) h)

high_front : (ks : List TokenClass) → deep_place ks < length ks → 100 < depth (take (suc (deep_place ks)) ks)
high_front ks h = deep_high (fresh false ∷ []) ks h

-- a place before which the text is not too deep is not past the first too deep token
not_past : (ks : List TokenClass) (n : ℕ) → n ≤ length ks → depth (take n ks) ≤ 100 → n ≤ deep_place ks
not_past ks n w d = elim (cases_lt (deep_place ks) n) [
  | inl lt ↦ absurd (let a = high_front ks (omega arith) in let b = front_shallow (suc (deep_place ks)) n ks (omega arith) d in omega (arith, a, b))
  | inr ge ↦ ge
]

too_deep_is : (ks : List TokenClass) → deep_place ks < length ks → IsTooDeep ks (deep_place ks)
too_deep_is ks h = record { within = h; before = low_front ks (deep_place ks) (omega arith); after = high_front ks h }

one_deep : (ks : List TokenClass) (n : ℕ) → IsTooDeep ks n → n ≡ deep_place ks
one_deep ks n t =
    let w = t.within in
    let l = not_past ks n (omega (arith, w)) t.before in
    elim (cases_lt n (deep_place ks)) [
      | inl lt ↦ absurd (let a = low_front ks (suc n) (omega arith) in let b = t.after in omega (arith, a, b))
      | inr ge ↦ omega (arith, l, ge)
    ]

-- from what is given to the tree
from_tree : (end : ℕ) (ts : List Seen) (bad deep : ℕ) (b : Bool) (value : Option QueryValue) (t : Tree) →
    (if b then gives_fault (start_of end (slice_get ts deep)) TooDeep else tree_or_fault end ts bad value) ≡ gives_tree t → (b ≡ false) × ((p : Place) × (value ≡ Some (part p t)))
from_tree end ts bad deep true value t e = absurd (cc)
from_tree end ts bad deep false (Some (part p u)) t e = let same : u ≡ t = cc in (refl, (p, ap (λ x. Some (part p x)) same))
from_tree end ts bad deep false _ t e = absurd (cc)

no_tree : (end : ℕ) (ts : List Seen) (bad : ℕ) (value : Option QueryValue) → ((p : Place) (t : Tree) → value ≡ Some (part p t) → ⊥) →
    tree_or_fault end ts bad value ≡ gives_fault (start_of end (slice_get ts bad)) (kind_at (kinds_seen ts) bad)
no_tree end ts bad (Some (part p t)) h = absurd (h p t refl)
no_tree end ts bad _ h = refl

module _ (end : ℕ) (ts : List Seen) where
  abbrev ks : List TokenClass
  ks = kinds_seen ts

  abbrev bad : ℕ
  bad = bad_place production table steps (rule expression) ts

  abbrev value : Option QueryValue
  value = reading production table steps (rule expression) ts

  first_bad : IsBadPlace ts bad
  first_bad = given_place production table known rank steps ends expression ts

  reads_value : (p : Place) (t : Tree) → value ≡ Some (part p t) → Reads production (rule expression) ts (part p t) []
  reads_value p t e = given_reads production table known rank steps ends expression ts (part p t) e

  value_read : (p : Place) (t : Tree) → Reads production (rule expression) ts (part p t) [] → value ≡ Some (part p t)
  value_read p t d = reads_given production table known rank steps ends expression ts (part p t) d

  bad_is_end : (v : QueryValue) → Reads production (rule expression) ts v [] → bad ≡ length ts
  bad_is_end v d = one_place production (rule expression) ts bad (length ts) first_bad (whole_end ts v d)

  pub tree_is : (t : Tree) → parsed_tokens end ts ≡ gives_tree t → Derives ts t × (depth ks ≤ 100)
  unfolding parsed_tokens
  tree_is t e =
      let r = from_tree end ts bad (deep_place ks) (nat_lt (deep_place ks) bad) value t e in
      let d = reads_value r.1.0 t r.1.1 in
      let h = not_below (deep_place ks) bad r.0 in
      let l = bad_is_end (part r.1.0 t) d in
      let k = kinds_length ts in
      ((r.1.0, d), whole_low ks (omega (arith, h, l, k)))

  pub tree_given : (t : Tree) → Derives ts t → depth ks ≤ 100 → parsed_tokens end ts ≡ gives_tree t
  unfolding parsed_tokens
  tree_given t d low =
      let v = value_read d.0 t d.1 in
      let l = bad_is_end (part d.0 t) d.1 in
      let k = kinds_length ts in
      let n = not_past ks (length ks) (omega arith) (subst (λ x. depth x ≤ 100) (sym (take-length ks)) low) in
      let b = is_not_below (deep_place ks) bad (omega (arith, l, k, n)) in
      rw (b, v) refl

  -- from what is given to the fault
  fault_by : (b : Bool) (at : ℕ) (kind : ParseKind) → nat_lt (deep_place ks) bad ≡ b →
      (if b then gives_fault (start_of end (slice_get ts (deep_place ks))) TooDeep else tree_or_fault end ts bad value) ≡ gives_fault at kind → IsFault end ts at kind
  fault_by true at kind h e =
      let lt = below (deep_place ks) bad h in
      let w = first_bad.within in
      let k = kinds_length ts in
      let i : start_of end (slice_get ts (deep_place ks)) ≡ at = cc in
      let j : TooDeep ≡ kind = cc in
      record { place = deep_place ks; is = sym i; bad = subst (λ x. IsBadAt ts (deep_place ks) x) j (too_deep (too_deep_is ks (omega (arith, lt, w, k))) (first_bad.before (suc (deep_place ks)) lt)) }
  fault_by false at kind h e =
      let ge = not_below (deep_place ks) bad h in
      let none : (p : Place) (t : Tree) → value ≡ Some (part p t) → ⊥ = λ p t v. tree_is_none v e in
      let f = place_fault end ts bad first_bad (low_front ks bad ge) (λ t d. none d.0 t (value_read d.0 t d.1)) in
      let g : gives_fault (start_of end (slice_get ts bad)) (kind_at ks bad) ≡ gives_fault at kind = sym (no_tree end ts bad value none) ∙ e in
      let i : start_of end (slice_get ts bad) ≡ at = cc in
      let j : kind_at ks bad ≡ kind = cc in
      subst (λ x. IsFault end ts x kind) i (subst (λ x. IsFault end ts (start_of end (slice_get ts bad)) x) j f)
    where
      tree_is_none : {p : Place} {t : Tree} → value ≡ Some (part p t) → tree_or_fault end ts bad value ≡ gives_fault at kind → ⊥
      tree_is_none {p} {t} v e = let x : tree_or_fault end ts bad (Some (part p t)) ≡ gives_fault at kind = subst (λ o. tree_or_fault end ts bad o ≡ gives_fault at kind) v e in cc

  pub fault_is : (at : ℕ) (kind : ParseKind) → parsed_tokens end ts ≡ gives_fault at kind → IsFault end ts at kind
  unfolding parsed_tokens
  fault_is at kind e = fault_by (nat_lt (deep_place ks) bad) at kind refl e

  -- from the fault to what is given
  at_bad : bad ≤ deep_place ks → ((p : Place) (t : Tree) → value ≡ Some (part p t) → ⊥) → parsed_tokens end ts ≡ gives_fault (start_of end (slice_get ts bad)) (kind_at ks bad)
  unfolding parsed_tokens
  at_bad le none = let b = is_not_below (deep_place ks) bad le in rw b (no_tree end ts bad value none)

  at_deep : deep_place ks < bad → parsed_tokens end ts ≡ gives_fault (start_of end (slice_get ts (deep_place ks))) TooDeep
  unfolding parsed_tokens
  at_deep lt = let b = is_below (deep_place ks) bad lt in rw b refl

  bad_given : {place : ℕ} {kind : ParseKind} → IsBadAt ts place kind → parsed_tokens end ts ≡ gives_fault (start_of end (slice_get ts place)) kind
  bad_given (bad_token {place} lt p low) =
      let same : place ≡ bad = one_place production (rule expression) ts place bad p first_bad in
      let k = kinds_length ts in
      let n = not_past ks place (omega (arith, lt, k)) low in
      let g = at_bad (omega (arith, same, n)) (λ q t v. let l = bad_is_end (part q t) (reads_value q t v) in absurd (omega (arith, l, same, lt))) in
      subst (λ n. parsed_tokens end ts ≡ gives_fault (start_of end (slice_get ts n)) (kind_at ks n)) (sym same) g
  bad_given (too_deep {place} t b) =
      let same : place ≡ deep_place ks = one_deep ks place t in
      let w = t.within in
      let k = kinds_length ts in
      let lt : deep_place ks < bad = elim (cases_lt (deep_place ks) bad) [
        | inl lt ↦ lt
        | inr ge ↦ absurd (first_bad.after (suc place) (omega (arith, ge, same)) (omega (arith, w, k)) b)
      ] in
      subst (λ n. parsed_tokens end ts ≡ gives_fault (start_of end (slice_get ts n)) TooDeep) (sym same) (at_deep lt)
  bad_given (too_early p low none) =
      let same : length ts ≡ bad = one_place production (rule expression) ts (length ts) bad p first_bad in
      let k = kinds_length ts in
      let n = not_past ks (length ks) (omega arith) (subst (λ x. depth x ≤ 100) (sym (take-length ks)) low) in
      let g = at_bad (omega (arith, same, n, k)) (λ q t v. none t (q, reads_value q t v)) in
      let h = subst (λ n. parsed_tokens end ts ≡ gives_fault (start_of end (slice_get ts n)) (kind_at ks n)) (sym same) g in
      h ∙ ap (gives_fault (start_of end (slice_get ts (length ts)))) (ap (kind_at ks) (sym k) ∙ end_kind ks)

  pub fault_given : (at : ℕ) (kind : ParseKind) → IsFault end ts at kind → parsed_tokens end ts ≡ gives_fault at kind
  fault_given at kind f = bad_given f.bad ∙ ap (λ a. gives_fault a kind) (sym f.is)

  pub no_lex : (at : ℕ) (kind : LexKind) → parsed_tokens end ts ≡ gives_lex_fault at kind → ⊥
  unfolding parsed_tokens
  no_lex at kind e = lex_by (nat_lt (deep_place ks) bad) value e
    where
      lex_by : (b : Bool) (v : Option QueryValue) → (if b then gives_fault (start_of end (slice_get ts (deep_place ks))) TooDeep else tree_or_fault end ts bad v) ≡ gives_lex_fault at kind → ⊥
      lex_by true v e = cc
      lex_by false (Some (part p t)) e = cc
      lex_by false _ e = cc

module _ (text : List ℕ) where
  to_tree : (l : Lexed) (t : Tree) → lexed text ≡ l → parsed_lexed (length text) l ≡ gives_tree t → IsExpression text t
  to_tree (gives_tokens ts) t e h = let x = tree_is (length text) (seen_tokens ts) t h in record { tokens = ts; has = (tokens_both text ts).0 e; derives = x.0; shallow = x.1 }
  to_tree (gives_first_fault p k) t e h = absurd (cc)

  to_fault : (l : Lexed) (at : ℕ) (kind : ParseKind) → lexed text ≡ l → parsed_lexed (length text) l ≡ gives_fault at kind → HasBadPlace text at kind
  to_fault (gives_tokens ts) at kind e h = record { tokens = ts; has = (tokens_both text ts).0 e; fault = fault_is (length text) (seen_tokens ts) at kind h }
  to_fault (gives_first_fault p k) at kind e h = absurd (cc)

  to_lex : (l : Lexed) (at : ℕ) (kind : LexKind) → lexed text ≡ l → parsed_lexed (length text) l ≡ gives_lex_fault at kind → HasFault text at kind
  to_lex (gives_tokens ts) at kind e h = absurd (no_lex (length text) (seen_tokens ts) at kind h)
  to_lex (gives_first_fault p k) at kind e h =
      let i : p ≡ at = cc in
      let j : k ≡ kind = cc in
      (fault_both text at kind).0 (e ∙ ap (λ q. gives_first_fault q k) i ∙ ap (gives_first_fault at) j)

  pub tree_both : (t : Tree) → (parsed text ≡ gives_tree t → IsExpression text t) × (IsExpression text t → parsed text ≡ gives_tree t)
  unfolding parsed
  tree_both t = (to_tree (lexed text) t refl, λ x. ap (parsed_lexed (length text)) ((tokens_both text x.tokens).1 x.has) ∙ tree_given (length text) (seen_tokens x.tokens) t x.derives x.shallow)

  pub bad_both : (at : ℕ) (kind : ParseKind) → (parsed text ≡ gives_fault at kind → HasBadPlace text at kind) × (HasBadPlace text at kind → parsed text ≡ gives_fault at kind)
  unfolding parsed
  bad_both at kind = (to_fault (lexed text) at kind refl, λ x. ap (parsed_lexed (length text)) ((tokens_both text x.tokens).1 x.has) ∙ fault_given (length text) (seen_tokens x.tokens) at kind x.fault)

  pub lex_both : (at : ℕ) (kind : LexKind) → (parsed text ≡ gives_lex_fault at kind → HasFault text at kind) × (HasFault text at kind → parsed text ≡ gives_lex_fault at kind)
  unfolding parsed
  lex_both at kind = (to_lex (lexed text) at kind refl, λ x. ap (parsed_lexed (length text)) ((fault_both text at kind).1 x))

-- what a text gives is one thing
pub one_tree : (text : List ℕ) (t u : Tree) → IsExpression text t → IsExpression text u → t ≡ u
one_tree text t u x y = let h = (tree_both text t).1 x in let k = (tree_both text u).1 y in let same : gives_tree t ≡ gives_tree u = sym h ∙ k in cc

same_fault : (text : List ℕ) (at other : ℕ) (kind sort : ParseKind) → HasBadPlace text at kind → HasBadPlace text other sort → gives_fault at kind ≡ gives_fault other sort
same_fault text at other kind sort x y = sym ((bad_both text at kind).1 x) ∙ (bad_both text other sort).1 y

pub one_place_only : (text : List ℕ) (at other : ℕ) (kind sort : ParseKind) → HasBadPlace text at kind → HasBadPlace text other sort → at ≡ other
one_place_only text at other kind sort x y = let same = same_fault text at other kind sort x y in cc

pub one_kind_only : (text : List ℕ) (at other : ℕ) (kind sort : ParseKind) → HasBadPlace text at kind → HasBadPlace text other sort → kind ≡ sort
one_kind_only text at other kind sort x y = let same = same_fault text at other kind sort x y in cc

pub tree_or_fault_only : (text : List ℕ) (tree : Tree) (at : ℕ) (kind : ParseKind) → IsExpression text tree → HasBadPlace text at kind → ⊥
tree_or_fault_only text tree at kind x y = let same : gives_tree tree ≡ gives_fault at kind = sym ((tree_both text tree).1 x) ∙ (bad_both text at kind).1 y in cc

pub lex_or_fault_only : (text : List ℕ) (at other : ℕ) (kind : ParseKind) (sort : LexKind) → HasBadPlace text at kind → HasFault text other sort → ⊥
lex_or_fault_only text at other kind sort x y = let same : gives_fault at kind ≡ gives_lex_fault other sort = sym ((bad_both text at kind).1 x) ∙ (lex_both text other sort).1 y in cc

-- what is answered by the relations is what the text gives
pub answered : (text : List ℕ) (r : Result Expr ParseError) → IfOk r (λ e. IsExpression text (tree_of e)) → IfErr r (Refuses text) → MatchResult r (λ e. parsed text ≡ gives_tree (tree_of e)) (IsFaultOf (parsed text))
answered text (Ok e) h k = (tree_both text (tree_of e)).1 h
answered text (Err (Lex at kind)) h k = (lex_both text at kind).1 k
answered text (Err (Fault at kind)) h k = (bad_both text at kind).1 k
answered text (Err Memory) h k = tt

pub steps_answered : (text : List ℕ) (r : Result Expr ParseError) → IfOk r (λ e. IsExpression text (tree_of e)) → IfOk r (λ e. has_steps (tree_of e) ≡ true)
steps_answered text (Ok e) h = read_has_steps h.tokens h.derives.0 (tree_of e) h.derives.1
steps_answered text (Err x) h = tt
