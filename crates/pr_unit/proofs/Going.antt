-- A series goes on from place to place.
use Rattle.std.proofs.Common.{◌≡◌, ℕ, zero, suc, ◌+◌, ◌-◌, ◌<◌, ◌≤◌, List, [], ◌∷◌, drop, slice_get, Some, None, refl, sym, ap, ◌∙◌, arith}
use Rattle.spec_tests.specs.pr_testfile.declared.inputs.stretch.Stretch.{Stretch}
use Rattle.spec_tests.specs.pr_testfile.Points.{point_in, size}
use Rattle.spec_tests.specs.pr_testfile.Series.{point_at}
use Rattle.pr_unit.specs.declared.feeding.progress.Progress.{Progress}
use Rattle.pr_unit.specs.private.Feeding.{IsAt}
use Rattle.pr_unit.proofs.Points.{none_left, point_here, point_past}

drop_next : {X : Type 0} (xs : List X) (k : ℕ) (x : X) → slice_get xs k ≡ Some x → drop k xs ≡ x ∷ drop (suc k) xs
drop_next [] k x h = absurd cc
drop_next (y ∷ xs) zero x h = let e : y ≡ x = cc in ap (λ z. z ∷ xs) e
drop_next (y ∷ xs) (suc k) x h = drop_next xs k x h

one_on : (k : ℕ) → suc k ≡ k + 1
one_on k = omega arith

pub drop_there : {X : Type 0} (xs : List X) (k : ℕ) (x : X) → slice_get xs k ≡ Some x → drop k xs ≡ x ∷ drop (k + 1) xs
drop_there xs k x h = drop_next xs k x h ∙ ap (λ n. x ∷ drop n xs) (one_on k)

drop_past : {X : Type 0} (xs : List X) (k : ℕ) → slice_get xs k ≡ None → drop k xs ≡ []
drop_past [] zero h = refl
drop_past [] (suc k) h = refl
drop_past (y ∷ xs) zero h = absurd cc
drop_past (y ∷ xs) (suc k) h = drop_past xs k h

abbrev pub progress : ℕ → ℕ → Progress
progress stretch within = record { stretch = stretch; within = within }

-- a stretch that has ended lies behind
pub stretch_ends : (stretches : List Stretch) (place k n : ℕ) (s : Stretch) → slice_get stretches k ≡ Some s → size s ≤ n → IsAt stretches place (progress k n)
    → IsAt stretches place (progress (k + 1) (n - size s))
stretch_ends stretches place k n s there ended h = λ i.
    let parts : n + i ≡ size s + ((n - size s) + i) = omega arith in
    h i
    ∙ ap (λ l. point_at l (n + i)) (drop_there stretches k s there)
    ∙ ap (point_at (s ∷ drop (k + 1) stretches)) parts
    ∙ point_past s (drop (k + 1) stretches) ((n - size s) + i)

none_on : (n : ℕ) → n ≡ n + 0
none_on n = omega arith

-- the point at the place
pub point_next : (stretches : List Stretch) (place : ℕ) (p : Progress) (s : Stretch) → slice_get stretches p.stretch ≡ Some s → p.within < size s → IsAt stretches place p
    → point_in s p.within ≡ point_at stretches place
point_next stretches place p s there within h =
    sym (point_here s (drop (p.stretch + 1) stretches) p.within within)
    ∙ ap (λ l. point_at l p.within) (sym (drop_there stretches p.stretch s there))
    ∙ ap (point_at (drop p.stretch stretches)) (none_on p.within)
    ∙ sym (h 0)
    ∙ ap (point_at stretches) (sym (none_on place))

pub no_point : (stretches : List Stretch) (place : ℕ) (p : Progress) → slice_get stretches p.stretch ≡ None → IsAt stretches place p → None ≡ point_at stretches place
no_point stretches place p past h =
    sym (none_left (p.within + 0)) ∙ ap (λ l. point_at l (p.within + 0)) (sym (drop_past stretches p.stretch past)) ∙ sym (h 0) ∙ ap (point_at stretches) (sym (none_on place))

one_further : (a i : ℕ) → a + 1 + i ≡ a + (1 + i)
one_further a i = omega arith

-- one place more lies behind
pub one_place : (stretches : List Stretch) (place k n : ℕ) → IsAt stretches place (progress k n) → IsAt stretches (place + 1) (progress k (n + 1))
one_place stretches place k n h = λ i.
    ap (point_at stretches) (one_further place i) ∙ h (1 + i) ∙ ap (point_at (drop k stretches)) (sym (one_further n i))

pub nothing_left : (stretches : List Stretch) (place : ℕ) (p : Progress) → slice_get stretches p.stretch ≡ None → IsAt stretches place p → IsAt stretches (place + 1) p
nothing_left stretches place p past h = λ i.
    let none : drop p.stretch stretches ≡ [] = drop_past stretches p.stretch past in
    ap (point_at stretches) (one_further place i) ∙ h (1 + i)
    ∙ ap (λ l. point_at l (p.within + (1 + i))) none ∙ none_left (p.within + (1 + i))
    ∙ sym (none_left (p.within + i)) ∙ ap (λ l. point_at l (p.within + i)) (sym none)
