-- Functions of values are functions of what the values fold to.
use Rattle.std.proofs.Common.{◌≡◌, ℕ, suc, ◌+◌, ◌-◌, true, cond, nat_lt, List, [], ◌∷◌, length, Some, Ok, None, Result, refl, sym, ap, ◌∙◌, pos, arith}
use Rattle.std.proofs.lemmas.List.{length-map}
use Rattle.std.proofs.lemmas.Grind.{common_steps}
use Rattle.pr_num.specs.declared.value.Num.{Num}
use Rattle.pr_num.specs.declared.value.Num.TheVariants.{Finite, NaN, PosInf, NegInf}
use Rattle.pr_num.specs.declared.value.TooWide.{TooWide}
use Rattle.pr_num.specs.Arithmetic.{whole_of}
use Rattle.pr_num.specs.Total.{Tally, joined, mean_of, one_value, total_of, value_of}
use Rattle.spec_vectors.specs.spec_history.declared.spot.Spot.{Spot}
use Rattle.spec_vectors.specs.declared.range.Ask.{Ask}
use Rattle.spec_vectors.specs.declared.range.RangeFn.{RangeFn}
use Rattle.spec_vectors.specs.declared.range.RangeFn.TheVariants.{Rate, Increase, Delta, Changes, Resets, SumOverTime, AvgOverTime, MinOverTime, MaxOverTime, CountOverTime, LastOverTime, PresentOverTime}
use Rattle.spec_vectors.specs.Aggregation.{greatest_of_values, least_of_values}
use Rattle.spec_vectors.specs.Extrapolation.{delta_of, increase_of, lost, rate_of}
use Rattle.spec_vectors.specs.Ranges.{function_of}
use Rattle.spec_vectors.specs.Spots.{has_special, last_of, numbers_of, some_value}
use Rattle.pr_window.specs.private.Folding.{folded}
use Rattle.pr_window.specs.declared.folds.neighbours.Neighbours.{Neighbours}
use Rattle.pr_window.specs.private.Answers.{from_neighbours, from_total, is_of_neighbours, is_of_total}
use Rattle.pr_window.specs.private.Extremes.{greater, lesser, value_alone}
use Rattle.pr_window.specs.private.Gains.{delta_between, increase_between, rate_between}
use Rattle.pr_window.specs.private.Neighbours.{beside, neighbours_of, spot_alone}
use Rattle.pr_window.specs.private.Totals.{total_alone}
use Rattle.pr_window.proofs.Summaries.{greatest_folded, least_folded, sequence_folded, total_folded}

some_same : {A : Type 0} (a b : A) → Some a ≡ Some b → a ≡ b
some_same a b h = cc

total_is : (x : Spot) (xs : List Spot) (t : Tally) → folded total_alone joined (x ∷ xs) ≡ Some t → total_of (numbers_of (x ∷ xs)) ≡ t
total_is x xs t k = some_same (total_of (numbers_of (x ∷ xs))) t (sym (total_folded x xs) ∙ k)

one_counted : (v : Num) → (one_value v).count ≡ 1
one_counted (Finite a) = refl
one_counted NaN = refl
one_counted PosInf = refl
one_counted NegInf = refl

total_counted : (vs : List Num) → (total_of vs).count ≡ length vs
total_counted [] = refl
total_counted (v ∷ vs) = omega (arith, one_counted v, total_counted vs)

-- a total has as many values as were folded
pub total_count : (x : Spot) (xs : List Spot) (t : Tally) → folded total_alone joined (x ∷ xs) ≡ Some t → t.count ≡ length (x ∷ xs)
total_count x xs t k =
    ap (λ (u : Tally). u.count) (sym (total_is x xs t k)) ∙ total_counted (numbers_of (x ∷ xs)) ∙ length-map (x ∷ xs) (λ (s : Spot). s.value)

pub total_answers : (f : RangeFn) (a : Ask) (x : Spot) (xs : List Spot) (t : Tally) → is_of_total f ≡ true → folded total_alone joined (x ∷ xs) ≡ Some t → function_of f a x xs ≡ from_total f t
unfolding function_of
total_answers SumOverTime a x xs t h k = ap (λ (u : Tally). some_value (value_of u)) (total_is x xs t k)
total_answers AvgOverTime a x xs t h k = ap (λ (u : Tally). Ok (Some (mean_of u))) (total_is x xs t k)
total_answers CountOverTime a x xs t h k = ap (λ (n : ℕ). Ok (Some (whole_of (pos n)))) (sym (total_counted (numbers_of (x ∷ xs)))) ∙ ap (λ (u : Tally). Ok (Some (whole_of (pos u.count)))) (total_is x xs t k)
total_answers PresentOverTime a x xs t h k = refl
total_answers _ a x xs t h k = cc

pub greatest_answers : (a : Ask) (x : Spot) (xs : List Spot) (v : Num) → folded value_alone greater (x ∷ xs) ≡ Some v → function_of MaxOverTime a x xs ≡ Ok (Some v)
unfolding function_of
greatest_answers a x xs v k = ap (λ (u : Num). Ok (Some u)) (some_same (greatest_of_values (numbers_of (x ∷ xs))) v (sym (greatest_folded x xs) ∙ k))

pub least_answers : (a : Ask) (x : Spot) (xs : List Spot) (v : Num) → folded value_alone lesser (x ∷ xs) ≡ Some v → function_of MinOverTime a x xs ≡ Ok (Some v)
unfolding function_of
least_answers a x xs v k = ap (λ (u : Num). Ok (Some u)) (some_same (least_of_values (numbers_of (x ∷ xs))) v (sym (least_folded x xs) ∙ k))

-- of two values or more
many : (n : ℕ) → nat_lt 1 (suc n + 1) ≡ true
many n = grind (arith, common_steps)

steps_are : (n : ℕ) → suc n + 1 - 1 ≡ suc n
steps_are n = omega arith

two : (n : ℕ) (g : ℕ → Result Num TooWide) → some_value (g (suc n)) ≡ cond (nat_lt 1 (suc n + 1)) (some_value (g (suc n + 1 - 1))) (Ok None)
two n g = λ i. cond (sym (many n) i) (some_value (g (sym (steps_are n) i))) (Ok None)

meant : (f : RangeFn) (a : Ask) (x : Spot) (xs : List Spot) → is_of_neighbours f ≡ true → function_of f a x xs ≡ from_neighbours f a.from a.to (neighbours_of x xs)
unfolding function_of rate_of increase_of delta_of
meant LastOverTime a x xs h = refl
meant Changes a x xs h = refl
meant Resets a x xs h = refl
meant Rate a x [] h = refl
meant Rate a x (y ∷ ys) h = two (length ys) (λ n. rate_between a.from a.to x (last_of y ys) n (lost (numbers_of (x ∷ y ∷ ys))) (has_special (numbers_of (x ∷ y ∷ ys))))
meant Increase a x [] h = refl
meant Increase a x (y ∷ ys) h = two (length ys) (λ n. increase_between a.from a.to x (last_of y ys) n (lost (numbers_of (x ∷ y ∷ ys))) (has_special (numbers_of (x ∷ y ∷ ys))))
meant Delta a x [] h = refl
meant Delta a x (y ∷ ys) h = two (length ys) (λ n. delta_between a.from a.to x (last_of y ys) n (has_special (numbers_of (x ∷ y ∷ ys))))
meant _ a x xs h = cc

pub sequence_answers : (f : RangeFn) (a : Ask) (x : Spot) (xs : List Spot) (s : Neighbours) → is_of_neighbours f ≡ true → folded spot_alone beside (x ∷ xs) ≡ Some s → function_of f a x xs ≡ from_neighbours f a.from a.to s
sequence_answers f a x xs s h k =
    meant f a x xs h ∙ ap (λ (n : Neighbours). from_neighbours f a.from a.to n) (some_same (neighbours_of x xs) s (sym (sequence_folded x xs) ∙ k))
