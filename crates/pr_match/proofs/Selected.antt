-- Which places are among those that are selected.
use Rattle.std.proofs.Common.{◌≡◌, ℕ, zero, suc, ◌+◌, ◌<◌, Bool, true, false, cond, nat_eq, List, [], ◌∷◌, map, arith, refl}
use Rattle.std.specs.List.{list_any, slice_get}
use Rattle.std.proofs.lemmas.Bool.Decides.{nat_tests}
use Rattle.pr_labels.specs.declared.pair.Pair.{Pair}
use Rattle.pr_match.specs.Matcher.{LabelTest, meets_all, is_met, places_from}

-- another place is among them where it is among those that follow
passed : (kept : Bool) (n place : ℕ) (labels : List Pair) (rest : List (ℕ × List Pair)) (among : Bool) → nat_eq place n ≡ false →
    list_any (nat_eq place) (map (λ x. x.0) rest) ≡ among → list_any (nat_eq place) (map (λ x. x.0) (cond kept ((n, labels) ∷ rest) rest)) ≡ among
passed true n place labels rest among other h = rw other h
passed false n place labels rest among other h = h

first_here : (kept : Bool) (n place : ℕ) (labels : List Pair) (rest : List (ℕ × List Pair)) → nat_eq place n ≡ true →
    list_any (nat_eq place) (map (λ x. x.0) rest) ≡ false → list_any (nat_eq place) (map (λ x. x.0) (cond kept ((n, labels) ∷ rest) rest)) ≡ kept
first_here true n place labels rest same h = rw same refl
first_here false n place labels rest same h = h

-- no place before the first
none_before : (tests : List LabelTest) (sets : List (List Pair)) (n place : ℕ) → place < n → list_any (nat_eq place) (places_from n tests sets) ≡ false
unfolding places_from
none_before tests [] n place lt = refl
none_before tests (labels ∷ rest) n place lt =
    passed (meets_all tests labels) n place labels _ false (grind (arith, nat_tests)) (none_before tests rest (n + 1) place (omega arith))

selected_from : (tests : List LabelTest) (sets : List (List Pair)) (n k place : ℕ) → place ≡ n + k →
    list_any (nat_eq place) (places_from n tests sets) ≡ is_met tests (slice_get sets k)
unfolding places_from
selected_from tests [] n k place e = refl
selected_from tests (labels ∷ rest) n zero place e =
    first_here (meets_all tests labels) n place labels _ (grind (arith, nat_tests, e)) (none_before tests rest (n + 1) place (omega (arith, e)))
selected_from tests (labels ∷ rest) n (suc k) place e =
    passed (meets_all tests labels) n place labels _ _ (grind (arith, nat_tests, e)) (selected_from tests rest (n + 1) k place (omega (arith, e)))

pub selected : (tests : List LabelTest) (sets : List (List Pair)) (place : ℕ) → list_any (nat_eq place) (places_from 0 tests sets) ≡ is_met tests (slice_get sets place)
selected tests sets place = selected_from tests sets 0 place place (omega arith)
