-- Bytes that stand for themselves are written as they are.
use Rattle.std.proofs.Common.{◌≡◌, ℕ, ◌==◌, true, false, Bool, List, ◌∷◌, [], ◌++◌, refl, ap, sym, subst, ◌∙◌, arith}
use Rattle.std.specs.Prelude.{flat_map, codes}
use Rattle.std.specs.List.{list_all}
use Rattle.std.proofs.lemmas.Bool.Decides.{nat_tests}
use Rattle.pr_words.specs.declared.strings.kind.Mark.TheVariants.{Double}
use Rattle.pr_words.specs.Strings.{is_plain, kind_of}
use Rattle.pr_words.specs.Quoted.{escaped_byte}

abbrev IsPlain : ℕ → Type 0
IsPlain b = is_plain Double (kind_of b) ≡ true

tested : (b n : ℕ) → (b == n) ≡ true → b ≡ n
tested b n h = grind (arith, nat_tests)

not_this : (b n : ℕ) → IsPlain b → (IsPlain n → true ≡ false) → (test : Bool) → (b == n) ≡ test → test ≡ false
not_this b n plain none true is = none (subst (λ (t : ℕ). IsPlain t) (tested b n is) plain)
not_this b n plain none false is = refl

is_itself : (b : ℕ) → IsPlain b → escaped_byte b ≡ b ∷ []
is_itself b plain =
    let backslash = not_this b 92 plain (λ h. sym h) (b == 92) refl in
    let quote = not_this b 34 plain (λ h. sym h) (b == 34) refl in
    let feed = not_this b 10 plain (λ h. sym h) (b == 10) refl in
    rw backslash (rw quote (rw feed refl))

pub plain_bytes : (bytes : List ℕ) → list_all (λ b. is_plain Double (kind_of b)) bytes ≡ true → flat_map escaped_byte bytes ≡ bytes
plain_bytes [] h = refl
plain_bytes (b ∷ bytes) h =
    let first : is_plain Double (kind_of b) ≡ true = grind (arith) in
    let rest : list_all (λ b. is_plain Double (kind_of b)) bytes ≡ true = grind (arith) in
    ap (λ t. t ++ flat_map escaped_byte bytes) (is_itself b first) ∙ ap (λ t. b ∷ t) (plain_bytes bytes rest)
