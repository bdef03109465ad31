-- The texts of small runs.
use Rattle.std.proofs.Common.{◌≡◌, ℕ, ◌+◌, ◌≤◌, zero, suc, List, [], ◌∷◌, ◌++◌, Some, codes, refl, ap, lit<, decimal, length, length-append, map, take, drop, arith}
use Rattle.std.proofs.lemmas.Fmt.{decimal_digit}
use Rattle.std.proofs.lemmas.List.{length-take}
use Rattle.spec_history.specs.declared.entry.Entry.{Entry}
use Rattle.pr_outside.specs.spec_history.declared.row.Row.{Row}
use Rattle.spec_history.specs.Rows.{encoded}
use Rattle.pr_top.specs.pr_text.Printed.{shown_report}
use Rattle.pr_outside.specs.Asks.{Asks, AsksAt, asked_by}
use Rattle.pr_outside.specs.Ends.{at_file}
use Rattle.pr_top.specs.pr_text.BadRows.{TellsRow, bad_row_text}
use Rattle.pr_top.specs.pr_run.Told.{kept_after, told_of}
use Rattle.laws_runs.specs.private.Examples.{added, reloaded}

pub none : decimal 0 ≡ 48 ∷ []
none = decimal_digit 0 (lit< tt)

pub one : decimal 1 ≡ 49 ∷ []
one = decimal_digit 1 (lit< tt)

pub two : decimal 2 ≡ 50 ∷ []
two = decimal_digit 2 (lit< tt)

pub seven : decimal 7 ≡ 55 ∷ []
seven = decimal_digit 7 (lit< tt)

-- The rows of two orders are kept, and no text of theirs is written: no number of orders has both.
pub kept_in_part : (e f : Entry) (n count : ℕ) → n ≤ 2
    → codes "opened 0\n" ≡ [] ++ take count (told_of [] (take n (added e ∷ added f ∷ [])))
    → ((fewer : ℕ) → fewer + 1 ≡ n → length (told_of [] (take fewer (added e ∷ added f ∷ []))) ≤ count)
    → encoded e ∷ encoded f ∷ [] ≡ map encoded (kept_after [] (take n (added e ∷ added f ∷ []))) → ⊥
unfolding shown_report told_of
kept_in_part e f zero count few text whole kept = absurd (cc)
kept_in_part e f (suc zero) count few text whole kept = absurd (cc)
kept_in_part e f (suc (suc zero)) count few text whole kept =
    let all : List ℕ = told_of [] (added e ∷ added f ∷ []) in
    let first : length (told_of [] (added e ∷ [])) ≤ count = whole 1 refl in
    let long : length (told_of [] (added e ∷ [])) ≡ 15 = ap (λ (d : List ℕ). length ((codes "opened " ++ d ++ codes "\n") ++ codes "added\n")) none in
    let most : length all ≡ 21 = ap (λ (d : List ℕ). length ((codes "opened " ++ d ++ codes "\n") ++ codes "added\nadded\n")) none in
    absurd (omega (arith, ap length text, length-take count all, first, long, most))
kept_in_part e f (suc (suc (suc n))) count few text whole kept = absurd (omega (arith, few))

-- An order is answered whose file could not be loaded: no number of orders has both.
pub answered_unloaded : (e : Entry) (file : List ℕ) (n count asked : ℕ) → n ≤ 2
    → codes "opened 0\nreloaded\n" ≡ [] ++ take count (told_of [] (take n (reloaded file ∷ added e ∷ [])))
    → Asks 0 1 asked → AsksAt at_file ((file ∷ []) ∷ [] ∷ []) n asked → ⊥
unfolding shown_report told_of
answered_unloaded e file zero count asked few text asks at =
    let all : List ℕ = told_of [] [] in
    let most : length all ≡ 9 = ap (λ (d : List ℕ). length ((codes "opened " ++ d ++ codes "\n") ++ [])) none in
    absurd (omega (arith, ap length text, length-take count all, most))
answered_unloaded e file (suc zero) count asked few text asks at =
    let here : asked_by 1 ((file ∷ []) ∷ [] ∷ []) ≡ 1 = refl in absurd (omega (arith, asks.1, at.0, here))
answered_unloaded e file (suc (suc zero)) count asked few text asks at =
    let here : asked_by 2 ((file ∷ []) ∷ [] ∷ []) ≡ 1 = refl in absurd (omega (arith, asks.1, at.0, here))
answered_unloaded e file (suc (suc (suc n))) count asked few text asks at = absurd (omega (arith, few))

-- a line that is shorter than that of the row
pub not_told_so : TellsRow 7 (Some []) (Some (codes "opened 0\n")) → ⊥
unfolding bad_row_text
not_told_so t =
    let line : length (bad_row_text 7) ≡ 10 = ap (λ (d : List ℕ). length (codes "bad row " ++ (d ++ codes "\n"))) seven in
    omega (arith, ap length t.text, length-append t.front (bad_row_text 7), line)
