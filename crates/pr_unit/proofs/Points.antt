-- The point at a place, stretch by stretch.
use Rattle.std.proofs.Common.{◌≡◌, ℕ, zero, suc, ◌+◌, ◌<◌, List, [], ◌∷◌, ◌++◌, length, slice_get, Some, None, refl, sym, ap, subst, ◌∙◌, arith}
use Rattle.std.proofs.lemmas.List.FromFn.{length-map-range_with_len, get_or-map-range_with_len}
use Rattle.std.proofs.lemmas.Option.{slice_get-get_or}
use Rattle.spec_tests.specs.pr_testfile.declared.inputs.stretch.Stretch.{Stretch}
use Rattle.spec_tests.specs.pr_testfile.Points.{point_in, points, points_in, size}
use Rattle.spec_tests.specs.pr_testfile.Series.{held, point_at}

get_first : {X : Type 0} (xs ys : List X) (n : ℕ) → n < length xs → slice_get (xs ++ ys) n ≡ slice_get xs n
get_first [] ys n h = absurd (omega arith)
get_first (x ∷ xs) ys zero h = refl
get_first (x ∷ xs) ys (suc n) h = get_first xs ys n (omega arith)

get_behind : {X : Type 0} (xs ys : List X) (n : ℕ) → slice_get (xs ++ ys) (length xs + n) ≡ slice_get ys n
get_behind [] ys n = let e : 0 + n ≡ n = omega arith in ap (slice_get ys) e
get_behind (x ∷ xs) ys n = let e : suc (length xs) + n ≡ suc (length xs + n) = omega arith in ap (slice_get (x ∷ (xs ++ ys))) e ∙ get_behind xs ys n

sized : (s : Stretch) → length (points_in s) ≡ size s
unfolding points_in
sized s = length-map-range_with_len (point_in s) 0 (size s)

from_none : (n : ℕ) → 0 + n ≡ n
from_none n = omega arith

pub none_left : (n : ℕ) → point_at [] n ≡ None
unfolding point_at points
none_left n = refl

pub point_here : (s : Stretch) (rest : List Stretch) (n : ℕ) → n < size s → point_at (s ∷ rest) n ≡ point_in s n
unfolding point_at points points_in
point_here s rest n h =
    let within : n < length (points_in s) = subst (λ (m : ℕ). n < m) (sym (sized s)) h in
    ap held
    (get_first (points_in s) (points rest) n within
    ∙ slice_get-get_or (points_in s) n None within
    ∙ ap Some (get_or-map-range_with_len (point_in s) 0 (size s) n n None h (from_none n)))

pub point_past : (s : Stretch) (rest : List Stretch) (n : ℕ) → point_at (s ∷ rest) (size s + n) ≡ point_at rest n
unfolding point_at points
point_past s rest n = ap held (ap (λ (m : ℕ). slice_get (points_in s ++ points rest) (m + n)) (sym (sized s)) ∙ get_behind (points_in s) (points rest) n)
