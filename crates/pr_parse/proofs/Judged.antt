-- From the first bad place of the tokens to the fault of their text.
use Rattle.std.proofs.Common.{◌≡◌, ℕ, zero, suc, ◌+◌, ◌≤◌, ◌<◌, List, [], ◌∷◌, ◌++◌, take, drop, length, max, Option, Some, None, refl, ap, sym, ◌∙◌, subst, arith, inl, inr, false, Result, Ok, Err}
use Rattle.std.specs.Prelude.{slice_get, MatchResult, IfSome}
use Rattle.std.proofs.lemmas.Bool.{cases_lt}
use Rattle.pr_forms.specs.Form.{rule, Reads, Begins}
use Rattle.pr_forms.proofs.Parts.{part_place, begins_other_rest}
use Rattle.pr_parse.specs.declared.grammar.kind.TokenClass.{TokenClass}
use Rattle.pr_parse.specs.declared.grammar.kind.Lexed.{Lexed}
use Rattle.pr_parse.specs.declared.depth.OpenPart.{OpenPart}
use Rattle.pr_parse.specs.declared.fault.ParseKind.{ParseKind}
use Rattle.pr_parse.specs.declared.fault.ParseKind.TheVariants.{End, TooDeep}
use Rattle.pr_parse.specs.declared.fault.Names.TheVariants.{Elsewhere}
use Rattle.pr_parse.specs.Seen.{Seen, see, seen, kinds_of, kinds_seen}
use Rattle.pr_ast.specs.Tree.{Tree}
use Rattle.std.proofs.Math.Seq.{take-length}
use Rattle.pr_parse.specs.Grammar.{production, expression, QueryValue, part}
use Rattle.pr_ast.specs.declared.tree.Expr.{Expr}
use Rattle.pr_parse.specs.declared.whole.TreeFault.{TreeFault}
use Rattle.pr_parse.specs.declared.whole.TreeFault.TheVariants.{Bad, Memory as TreeMemory}
use Rattle.pr_parse.specs.declared.fault.ParseError.{ParseError}
use Rattle.pr_parse.specs.GrammarWhole.{Derives, IsBadPlace}
use Rattle.pr_parse.specs.private.Whole.{RefusesTokens}
use Rattle.pr_parse.specs.Deep.{after_kind, depth_now, depth_from, depth, fresh, IsTooDeep}
use Rattle.pr_parse.specs.Faults.{kind_at, kind_by, names_from, kind_before, second_before}
use Rattle.pr_parse.specs.Derived.{IsBadAt, bad_token, too_deep, too_early, start_of, IsFault, fault_of, end_of, RefusesSeen}

pub kinds_same : (ts : List Lexed) → kinds_of ts ≡ kinds_seen (seen ts)
kinds_same [] = refl
kinds_same (t ∷ ts) = ap (λ ks. t.kind ∷ ks) (kinds_same ts)

pub seen_front : (n : ℕ) (ts : List Lexed) → seen (take n ts) ≡ take n (seen ts)
seen_front zero ts = refl
seen_front (suc n) [] = refl
seen_front (suc n) (t ∷ ts) = ap (λ us. see t ∷ us) (seen_front n ts)

first_low : (ps : List OpenPart) (ks : List TokenClass) → depth_now ps ≤ depth_from ps ks
first_low ps [] = omega arith
first_low ps (k ∷ ks) = omega arith

-- a front is no deeper
front_low : (ps : List OpenPart) (n : ℕ) (ks : List TokenClass) → depth_from ps (take n ks) ≤ depth_from ps ks
front_low ps zero ks = first_low ps ks
front_low ps (suc n) [] = omega arith
front_low ps (suc n) (k ∷ ks) = let h = front_low (after_kind ps k) n ks in omega (arith, h)

shorter_front : (n m : ℕ) (ks : List TokenClass) → n ≤ m → take n (take m ks) ≡ take n ks
shorter_front zero m ks h = refl
shorter_front (suc n) zero ks h = absurd (omega arith)
shorter_front (suc n) (suc m) [] h = refl
shorter_front (suc n) (suc m) (k ∷ ks) h = ap (λ x. k ∷ x) (shorter_front n m ks (omega arith))

pub front_shallow : (n m : ℕ) (ks : List TokenClass) → n ≤ m → depth (take m ks) ≤ 100 → depth (take n ks) ≤ 100
front_shallow n m ks h d =
    let l = front_low (fresh false ∷ []) n (take m ks) in
    let e : depth (take n (take m ks)) ≤ 100 = omega (arith, l, d) in
    subst (λ x. depth x ≤ 100) (shorter_front n m ks h) e

pub none_there : (ks : List TokenClass) → slice_get ks (length ks) ≡ None
none_there [] = refl
none_there (k ∷ ks) = none_there ks

pub end_kind : (ks : List TokenClass) → kind_at ks (length ks) ≡ End
end_kind ks = ap (kind_by (names_from Elsewhere None (take (length ks) ks)) (kind_before ks (length ks)) (second_before ks (length ks))) (none_there ks)

pub kinds_length : (ts : List Seen) → length (kinds_seen ts) ≡ length ts
kinds_length [] = refl
kinds_length (t ∷ ts) = ap suc (kinds_length ts)

-- the fault at the first bad place of tokens that are not too deep before it
pub place_fault : (end : ℕ) (ts : List Seen) (n : ℕ) → IsBadPlace ts n → depth (take n (kinds_seen ts)) ≤ 100 → ((t : Tree) → Derives ts t → ⊥) →
    IsFault end ts (start_of end (slice_get ts n)) (kind_at (kinds_seen ts) n)
place_fault end ts n p d none = record {
  place = n;
  is = refl;
  bad = elim (cases_lt n (length ts)) [
    | inl lt ↦ bad_token lt p d
    | inr ge ↦ at_end (let w = p.within in omega (arith, w, ge))
  ];
}
  where
    at_end : n ≡ length ts → IsBadAt ts n (kind_at (kinds_seen ts) n)
    at_end e =
        let l : n ≡ length (kinds_seen ts) = e ∙ sym (kinds_length ts) in
        let k : kind_at (kinds_seen ts) n ≡ End = ap (kind_at (kinds_seen ts)) l ∙ end_kind (kinds_seen ts) in
        let low : depth (kinds_seen ts) ≤ 100 = subst (λ ks. depth ks ≤ 100) (ap (λ m. take m (kinds_seen ts)) l ∙ take-length (kinds_seen ts)) d in
        subst (λ x. IsBadAt ts n x) (sym k) (subst (λ m. IsBadAt ts m End) (sym e) (too_early (subst (λ m. IsBadPlace ts m) e p) low none))

pub shallow_fault : (end : ℕ) (ts : List Seen) (n : ℕ) → IsBadPlace ts n → depth (kinds_seen ts) ≤ 100 → ((v : QueryValue) → Reads production (rule expression) ts v [] → ⊥) →
    IsFault end ts (start_of end (slice_get ts n)) (kind_at (kinds_seen ts) n)
shallow_fault end ts n p d none = place_fault end ts n p (let l = front_low (fresh false ∷ []) n (kinds_seen ts) in omega (arith, l, d)) (λ t h. none (part h.0 t) h.1)

-- an earlier bad token of a text that becomes too deep
pub early_fault : (end : ℕ) (ts : List Seen) (deep n : ℕ) → IsTooDeep (kinds_seen ts) deep → IsBadPlace (take (suc deep) ts) n → n ≤ deep →
    IsFault end ts (start_of end (slice_get ts n)) (kind_at (kinds_seen ts) n)
early_fault end ts deep n t p h =
    let w = t.within in let l = kinds_length ts in
    record { place = n; is = refl; bad = bad_token (omega (arith, w, l, h)) (part_place production (rule expression) ts (suc deep) n (omega arith) (omega (arith, w, l)) p) (front_shallow n deep (kinds_seen ts) h t.before) }

pub append_none : (xs : List Seen) → xs ++ [] ≡ xs
append_none [] = refl
append_none (x ∷ xs) = ap (λ ys. x ∷ ys) (append_none xs)

pub drop_all : (xs : List Seen) (n : ℕ) → length xs ≤ n → drop n xs ≡ []
drop_all [] zero h = refl
drop_all [] (suc n) h = refl
drop_all (x ∷ xs) zero h = absurd (omega arith)
drop_all (x ∷ xs) (suc n) h = drop_all xs n (omega arith)

take_drop : (n : ℕ) (xs : List Seen) → take n xs ++ drop n xs ≡ xs
take_drop zero xs = refl
take_drop (suc n) [] = refl
take_drop (suc n) (x ∷ xs) = ap (λ ys. x ∷ ys) (take_drop n xs)

take_short : (n : ℕ) (xs : List Seen) → length (take n xs) ≤ n
take_short zero xs = omega arith
take_short (suc n) [] = omega arith
take_short (suc n) (x ∷ xs) = let h = take_short n xs in omega (arith, h)

-- the token that makes a text too deep, with which the tokens can go on
pub deep_fault : (end : ℕ) (ts : List Seen) (deep n : ℕ) → IsTooDeep (kinds_seen ts) deep → IsBadPlace (take (suc deep) ts) n → deep < n → IsFault end ts (start_of end (slice_get ts deep)) TooDeep
deep_fault end ts deep n t p h =
    let front = take (suc deep) ts in
    let all : Begins production (rule expression) front (drop n front) = p.before n (omega arith) in
    let none : Begins production (rule expression) front [] = subst (λ r. Begins production (rule expression) front r) (drop_all front n (let s = take_short (suc deep) ts in omega (arith, s, h))) all in
    let more : Begins production (rule expression) (front ++ drop (suc deep) ts) (drop (suc deep) ts) =
    begins_other_rest production (rule expression) front [] (drop (suc deep) ts) (subst (λ us. Begins production (rule expression) us []) (sym (append_none front)) none) in
    record { place = deep; is = refl; bad = too_deep t (subst (λ us. Begins production (rule expression) us (drop (suc deep) ts)) (take_drop (suc deep) ts) more) }

pub end_place : (n : ℕ) (o : Result Expr TreeFault) (ts : List Seen) → MatchResult o (λ _. IsBadPlace ts n) (RefusesTokens ts) → IfSome (end_of n o) (IsBadPlace ts)
end_place n (Ok e) ts h = h
end_place n (Err (Bad i)) ts h = h
end_place n (Err TreeMemory) ts h = tt

-- the fault of the code is that of its tokens
pub refused : (end : ℕ) (ts : List Lexed) (n : ℕ) (e : ParseError) → e ≡ fault_of end (seen ts) n (kind_at (kinds_of ts) n) → IsFault end (seen ts) (start_of end (slice_get (seen ts) n)) (kind_at (kinds_seen (seen ts)) n) →
    RefusesSeen end (seen ts) e
refused end ts n e h f = subst (RefusesSeen end (seen ts)) (sym (h ∙ ap (λ ks. fault_of end (seen ts) n (kind_at ks n)) (kinds_same ts))) f

pub refused_deep : (end : ℕ) (ts : List Seen) (n : ℕ) (e : ParseError) → e ≡ fault_of end ts n TooDeep → IsFault end ts (start_of end (slice_get ts n)) TooDeep → RefusesSeen end ts e
refused_deep end ts n e h f = subst (RefusesSeen end ts) (sym h) f

pub not_shallow : (ks : List TokenClass) (n : ℕ) → IsTooDeep ks n → depth ks ≤ 100 → ⊥
not_shallow ks n t d = let l = front_low (fresh false ∷ []) (suc n) ks in let a = t.after in absurd (omega (arith, l, a, d))
