-- A folder ends where a character begins.
use Rattle.std.proofs.Common.{◌≡◌, ℕ, ◌+◌, ◌-◌, ◌<◌, ◌≤◌, true, List, ◌⊎◌, inl, inr, length, get_or, reverse, sym, ap, ◌∙◌, subst, arith}
use Rattle.std.specs.List.{position_or_len}
use Rattle.std.specs.Str.{IsUtf8, IsCharBoundary}
use Rattle.std.proofs.lemmas.Bool.{cases_lt}
use Rattle.std.proofs.lemmas.Bool.Decides.{nat_tests}
use Rattle.std.proofs.lemmas.List.{get_or-reverse, length-reverse}
use Rattle.std.proofs.lemmas.List.Sums.{passes_at_first}
use Rattle.std.proofs.lemmas.Str.{IsCharBoundary-after_ascii, IsCharBoundary-start}
use Rattle.pr_unit.specs.spec_tests.RuleFiles.{is_slash}

slash_is_ascii : (b : ℕ) → is_slash b ≡ true → b < 128
slash_is_ascii b e = grind (arith, nat_tests)

-- behind the last slash, or at the front
pub folder_ends : (bs : List ℕ) (n : ℕ) → n ≡ position_or_len is_slash (reverse bs) → IsUtf8 bs → IsCharBoundary bs (length bs - n)
folder_ends bs n is u = by (cases_lt n (length bs))
  where
    by : (n < length bs) ⊎ (length bs ≤ n) → IsCharBoundary bs (length bs - n)
    by (inl lt) =
        let at : ℕ = length bs - 1 - n in
        let in_back : position_or_len is_slash (reverse bs) < length (reverse bs) = omega (arith, lt, is, length-reverse bs) in
        let passes : is_slash (get_or (reverse bs) n 0) ≡ true = ap (λ (k : ℕ). is_slash (get_or (reverse bs) k 0)) is ∙ passes_at_first is_slash (reverse bs) 0 in_back in
        let slash : is_slash (get_or bs at 0) ≡ true = ap is_slash (sym (get_or-reverse bs n 0 lt)) ∙ passes in
        let next : at + 1 ≡ length bs - n = omega (arith, lt) in
        subst (IsCharBoundary bs) next (IsCharBoundary-after_ascii bs at u (omega (arith, lt)) (slash_is_ascii (get_or bs at 0) slash))
    by (inr le) =
        let none : 0 ≡ length bs - n = omega (arith, le) in
        subst (IsCharBoundary bs) none (IsCharBoundary-start bs u)
