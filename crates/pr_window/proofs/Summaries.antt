-- What values fold to.
use Rattle.std.proofs.Common.{◌≡◌, ℕ, suc, ◌+◌, Bool, true, false, ◌||◌, cond, List, [], ◌∷◌, length, map, fold, Some, refl, sym, ap, ◌∙◌, arith}
use Rattle.std.specs.Prelude.{count_by, filter}
use Rattle.std.proofs.lemmas.List.Sums.{sum_by-append}
use Rattle.pr_num.specs.declared.value.Num.{Num}
use Rattle.pr_num.specs.Total.{joined, no_values, one_value, total_of}
use Rattle.pr_num.proofs.Algebra.{nothing_joined_left, nothing_joined_right}
use Rattle.spec_vectors.specs.spec_history.declared.spot.Spot.{Spot}
use Rattle.spec_vectors.specs.Aggregation.{greatest_first, greatest_of_values, least_first, least_of_values}
use Rattle.spec_vectors.specs.Histogram.{is_special}
use Rattle.spec_vectors.specs.Ranges.{differ}
use Rattle.spec_vectors.specs.Spots.{falls, neighbours, numbers_of}
use Rattle.pr_window.specs.private.Folding.{and_item, folded}
use Rattle.pr_window.proofs.Folding.{behind_part}
use Rattle.pr_window.specs.private.Extremes.{greater, lesser, value_alone}
use Rattle.pr_window.specs.private.Neighbours.{beside, beside_assoc, loss, neighbours_of, one_if, spot_alone}
use Rattle.pr_window.specs.private.Totals.{joined_assoc, total_alone}
use Rattle.pr_window.proofs.Extremes.{first_is_folded}

-- A summary of lists that begins with the first item and puts each item before what it has of the
-- others is what they fold to.
module _ {T A : Type 0} (lift : T → A) (combine : A → A → A) (associative : (a b c : A) → combine (combine a b) c ≡ combine a (combine b c))
    (summary : T → List T → A) (alone : (x : T) → summary x [] ≡ lift x) (more : (x y : T) (ys : List T) → combine (lift x) (summary y ys) ≡ summary x (y ∷ ys)) where
  fold_is : (x : T) (xs : List T) → fold (and_item lift combine) (lift x) xs ≡ summary x xs
  fold_is x [] = sym (alone x)
  fold_is x (y ∷ ys) = behind_part lift combine associative (lift x) (lift y) ys ∙ ap (λ (a : A). combine (lift x) a) (fold_is y ys) ∙ more x y ys

  pub folded_is : (x : T) (xs : List T) → folded lift combine (x ∷ xs) ≡ Some (summary x xs)
  folded_is x xs = ap (λ (a : A). Some a) (fold_is x xs)

pub total_folded : (x : Spot) (xs : List Spot) → folded total_alone joined (x ∷ xs) ≡ Some (total_of (numbers_of (x ∷ xs)))
total_folded = folded_is total_alone joined joined_assoc (λ x xs. total_of (numbers_of (x ∷ xs))) (λ x. nothing_joined_right (one_value x.value)) (λ x y ys. refl)

pub greatest_folded : (x : Spot) (xs : List Spot) → folded value_alone greater (x ∷ xs) ≡ Some (greatest_of_values (numbers_of (x ∷ xs)))
greatest_folded x xs = ap (λ (a : Num). Some a) (first_is_folded value_alone greatest_first x.value xs)

pub least_folded : (x : Spot) (xs : List Spot) → folded value_alone lesser (x ∷ xs) ≡ Some (least_of_values (numbers_of (x ∷ xs)))
least_folded x xs = ap (λ (a : Num). Some a) (first_is_folded value_alone least_first x.value xs)

or_false : (b : Bool) → (b || false) ≡ b
or_false true = refl
or_false false = refl

sequence_alone : (x : Spot) → neighbours_of x [] ≡ spot_alone x
sequence_alone x = λ i. record (spot_alone x) { special = or_false (is_special x.value) i }

one_more : (n : ℕ) → 1 + (n + 1) ≡ suc n + 1
one_more n = omega arith

counted : (p : Num × Num → Bool) (x : Num × Num) (xs : List (Num × Num)) → 0 + one_if (p x) + count_by p xs ≡ count_by p (x ∷ xs)
counted p x xs = omega (arith, sum_by-append (λ (y : Num × Num). cond (p y) 1 0) (x ∷ []) xs)

lost_more : (p : Num × Num) (ps : List (Num × Num)) → joined no_values (joined (loss (falls p) p.0) (total_of (map (λ q. q.0) (filter falls ps)))) ≡ total_of (map (λ q. q.0) (filter falls (p ∷ ps)))
lost_more p ps = nothing_joined_left (joined (loss (falls p) p.0) (total_of (map (λ q. q.0) (filter falls ps)))) ∙ by_fall (falls p) where
  by_fall : (fell : Bool) → joined (loss fell p.0) (total_of (map (λ q. q.0) (filter falls ps))) ≡ total_of (map (λ q. q.0) (cond fell (p ∷ filter falls ps) (filter falls ps)))
  by_fall true = refl
  by_fall false = nothing_joined_left (total_of (map (λ q. q.0) (filter falls ps)))

sequence_more : (x y : Spot) (ys : List Spot) → beside (spot_alone x) (neighbours_of y ys) ≡ neighbours_of x (y ∷ ys)
sequence_more x y ys = λ i. record (neighbours_of x (y ∷ ys)) {
  count = one_more (length ys) i;
  lost = lost_more (x.value, y.value) (neighbours (numbers_of (y ∷ ys))) i;
  resets = counted falls (x.value, y.value) (neighbours (numbers_of (y ∷ ys))) i;
  changes = counted differ (x.value, y.value) (neighbours (numbers_of (y ∷ ys))) i;
}

pub sequence_folded : (x : Spot) (xs : List Spot) → folded spot_alone beside (x ∷ xs) ≡ Some (neighbours_of x xs)
sequence_folded = folded_is spot_alone beside beside_assoc neighbours_of sequence_alone sequence_more
