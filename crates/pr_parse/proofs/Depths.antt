-- How the depth grows by one more token.
use Rattle.std.proofs.Common.{◌≡◌, ℕ, zero, suc, ◌≤◌, ◌<◌, nat_lt, Bool, true, false, List, [], ◌∷◌, ◌++◌, take, length, get_or, max, map, refl, ap, sym, ◌∙◌, subst, arith}
use Rattle.std.proofs.lemmas.Bool.Decides.{nat_tests}
use Rattle.pr_parse.specs.declared.grammar.kind.TokenClass.{TokenClass}
use Rattle.pr_parse.specs.declared.grammar.kind.Lexed.{Lexed}
use Rattle.pr_parse.specs.declared.depth.OpenPart.{OpenPart}
use Rattle.pr_parse.specs.Seen.{kinds_of}
use Rattle.std.specs.Prelude.{if◌then◌else◌}
use Rattle.pr_parse.specs.Deep.{after_kind, after_kinds, depth_now, depth_from, greatest_height}
use Rattle.pr_parse.specs.Parsed.{deep_from}

three : (a b c : ℕ) → max a (max b c) ≡ max (max a b) c
three a b c = omega arith

pub after_snoc : (ps : List OpenPart) (ks : List TokenClass) (k : TokenClass) → after_kinds ps (ks ++ k ∷ []) ≡ after_kind (after_kinds ps ks) k
after_snoc ps [] k = refl
after_snoc ps (x ∷ ks) k = after_snoc (after_kind ps x) ks k

pub depth_snoc : (ps : List OpenPart) (ks : List TokenClass) (k : TokenClass) → depth_from ps (ks ++ k ∷ []) ≡ max (depth_from ps ks) (depth_now (after_kinds ps (ks ++ k ∷ [])))
depth_snoc ps [] k = refl
depth_snoc ps (x ∷ ks) k = ap (max (depth_now ps)) (depth_snoc (after_kind ps x) ks k) ∙ three _ _ _

pub now_low : (ps : List OpenPart) (ks : List TokenClass) → depth_now (after_kinds ps ks) ≤ depth_from ps ks
now_low ps [] = omega arith
now_low ps (x ∷ ks) = let h = now_low (after_kind ps x) ks in omega (arith, h)

pub kinds_next : (n j : ℕ) (ts : List Lexed) (x : Lexed) → j ≡ suc n → n < length ts → x ≡ get_or ts n x → take j (kinds_of ts) ≡ take n (kinds_of ts) ++ x.kind ∷ []
kinds_next n j [] x e lt h = absurd (omega arith)
kinds_next zero j (t ∷ ts) x e lt h = rw e (ap (λ y. y.kind ∷ []) (sym h))
kinds_next (suc n) j (t ∷ ts) x e lt h = rw e (ap (λ ks. t.kind ∷ ks) (kinds_next n (suc n) ts x refl (omega arith) h))

pub depth_step : (ps : List OpenPart) (front back : List TokenClass) (k : TokenClass) → back ≡ front ++ k ∷ [] → depth_from ps back ≡ max (depth_from ps front) (depth_now (after_kinds ps back))
depth_step ps front back k e = rw e (depth_snoc ps front k)

pub parts_step : (ps qs rs : List OpenPart) (front back : List TokenClass) (k : TokenClass) → back ≡ front ++ k ∷ [] → qs ≡ after_kinds ps front → rs ≡ after_kind qs k → rs ≡ after_kinds ps back
parts_step ps qs rs front back k e h i = i ∙ ap (λ q. after_kind q k) h ∙ sym (after_snoc ps front k) ∙ ap (after_kinds ps) (sym e)

pub low_height : (ps qs : List OpenPart) (ks : List TokenClass) → qs ≡ after_kinds ps ks → depth_from ps ks ≤ 100 → greatest_height qs ≤ 100
low_height ps qs ks e h = rw e (let l = now_low ps ks in omega (arith, l, h))

pub is_over : (n : ℕ) (b : Bool) → b ≡ nat_lt 100 n → b ≡ true → 100 < n
is_over n b e h = let k : nat_lt 100 n ≡ true = sym e ∙ h in grind (arith, nat_tests)

pub is_low : (n : ℕ) (b : Bool) → b ≡ nat_lt 100 n → b ≡ false → n ≤ 100
is_low n b e h = let k : nat_lt 100 n ≡ false = sym e ∙ h in grind (arith, nat_tests)

-- one more token, deep or not
pub becomes_deep : (ps rs : List OpenPart) (front back : List TokenClass) (k : TokenClass) → back ≡ front ++ k ∷ [] → rs ≡ after_kinds ps back → 100 < depth_now rs → 100 < depth_from ps back
becomes_deep ps rs front back k e h d = let s = depth_step ps front back k e in let l : 100 < depth_now (after_kinds ps back) = subst (λ q. 100 < depth_now q) h d in omega (arith, s, l)

pub stays_low : (ps rs : List OpenPart) (front back : List TokenClass) (k : TokenClass) → back ≡ front ++ k ∷ [] → rs ≡ after_kinds ps back → depth_from ps front ≤ 100 → depth_now rs ≤ 100 → depth_from ps back ≤ 100
stays_low ps rs front back k e h i d = let s = depth_step ps front back k e in let l : depth_now (after_kinds ps back) ≤ 100 = subst (λ q. depth_now q ≤ 100) h d in omega (arith, s, l, i)

pub kinds_length : (ts : List Lexed) → length (kinds_of ts) ≡ length ts
kinds_length [] = refl
kinds_length (t ∷ ts) = ap suc (kinds_length ts)

-- The first token that makes the text too deep: before it the text is not.
low_step : (ps : List OpenPart) (k : TokenClass) (ks : List TokenClass) (n : ℕ) (b : Bool) → nat_lt 100 (depth_now (after_kind ps k)) ≡ b → suc n ≤ (if b then 0 else suc (deep_from (after_kind ps k) ks)) → depth_now ps ≤ 100 →
    (n ≤ deep_from (after_kind ps k) ks → depth_now (after_kind ps k) ≤ 100 → depth_from (after_kind ps k) (take n ks) ≤ 100) → depth_from ps (k ∷ take n ks) ≤ 100
low_step ps k ks n true e h d again = absurd (omega arith)
low_step ps k ks n false e h d again = let l : depth_now (after_kind ps k) ≤ 100 = is_low (depth_now (after_kind ps k)) false (sym e) refl in let a = again (omega arith) l in omega (arith, a, d)

pub deep_low : (ps : List OpenPart) (ks : List TokenClass) (n : ℕ) → n ≤ deep_from ps ks → depth_now ps ≤ 100 → depth_from ps (take n ks) ≤ 100
deep_low ps ks zero h d = d
deep_low ps [] (suc n) h d = d
deep_low ps (k ∷ ks) (suc n) h d = low_step ps k ks n (nat_lt 100 (depth_now (after_kind ps k))) refl h d (deep_low (after_kind ps k) ks n)

-- with it the text is
high_step : (ps : List OpenPart) (k : TokenClass) (ks : List TokenClass) (b : Bool) → nat_lt 100 (depth_now (after_kind ps k)) ≡ b → (if b then 0 else suc (deep_from (after_kind ps k) ks)) < suc (length ks) →
    (deep_from (after_kind ps k) ks < length ks → 100 < depth_from (after_kind ps k) (take (suc (deep_from (after_kind ps k) ks)) ks)) →
    100 < depth_from ps (take (suc (if b then 0 else suc (deep_from (after_kind ps k) ks))) (k ∷ ks))
high_step ps k ks true e h again = let l : 100 < depth_now (after_kind ps k) = is_over (depth_now (after_kind ps k)) true (sym e) refl in omega (arith, l)
high_step ps k ks false e h again = let a = again (omega arith) in omega (arith, a)

pub deep_high : (ps : List OpenPart) (ks : List TokenClass) → deep_from ps ks < length ks → 100 < depth_from ps (take (suc (deep_from ps ks)) ks)
deep_high ps [] h = absurd (omega arith)
deep_high ps (k ∷ ks) h = high_step ps k ks (nat_lt 100 (depth_now (after_kind ps k))) refl h (deep_high (after_kind ps k) ks)
