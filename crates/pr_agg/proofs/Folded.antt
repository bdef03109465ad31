-- Values folded and finished are what the definitions say of them.
use Rattle.std.proofs.Common.{◌≡◌, ℕ, ◌+◌, List, [], ◌∷◌, fold, length, refl, ap, ◌∙◌, arith}
use Rattle.std.proofs.lemmas.List.{map-id}
use Rattle.std.specs.Ordering.{ord_min}
use Rattle.std.specs.declared.cmp.Ordering.{Ordering}
use Rattle.pr_num.specs.declared.value.Num.{Num}
use Rattle.pr_num.specs.Total.{joined, one_value}
use Rattle.pr_window.specs.spec_vectors.Aggregation.{always, count_of_values, first_value, greatest_first, greatest_of_values, least_first, least_of_values, mean_of_values, one_of_values, sum_of_values, with_placed}
use Rattle.pr_window.specs.private.Folding.{and_item}
use Rattle.pr_window.specs.private.Extremes.{greater, lesser}
use Rattle.pr_window.proofs.Extremes.{first_is_folded}
use Rattle.pr_agg.specs.private.Alone.{itself}
use Rattle.pr_agg.specs.private.Counts.{both_parts, one_each}
use Rattle.pr_agg.specs.private.Finished.{count_finished, mean_finished, presence_finished, total_finished, value_finished}
use Rattle.pr_agg.specs.private.Parts.{fold_and_finish}
use Rattle.pr_agg.specs.private.Presence.{any, both}
use Rattle.pr_agg.proofs.Totaling.{total_folded}

pub sum_folded : (x : Num) (xs : List Num) → fold_and_finish one_value joined total_finished (x ∷ xs) ≡ sum_of_values (x ∷ xs)
sum_folded = total_folded total_finished

pub mean_folded : (x : Num) (xs : List Num) → fold_and_finish one_value joined mean_finished (x ∷ xs) ≡ always mean_of_values (x ∷ xs)
mean_folded = total_folded mean_finished

first_itself : (order : Num → Num → Ordering) (x : Num) (xs : List Num) → fold (and_item itself (ord_min order)) x xs ≡ first_value (fold (with_placed order) (x ∷ []) xs)
first_itself order x xs = first_is_folded itself order x xs ∙ ap (λ (ys : List Num). first_value (fold (with_placed order) (x ∷ []) ys)) (map-id xs)

pub greatest_folded : (x : Num) (xs : List Num) → fold_and_finish itself greater value_finished (x ∷ xs) ≡ always greatest_of_values (x ∷ xs)
greatest_folded x xs = ap value_finished (first_itself greatest_first x xs)

pub least_folded : (x : Num) (xs : List Num) → fold_and_finish itself lesser value_finished (x ∷ xs) ≡ always least_of_values (x ∷ xs)
least_folded x xs = ap value_finished (first_itself least_first x xs)

pub fold_count : (a : ℕ) (xs : List Num) → fold (and_item one_each both_parts) a xs ≡ a + length xs
fold_count a [] = omega arith
fold_count a (x ∷ xs) = omega (arith, fold_count (a + 1) xs)

count_is_length : (x : Num) (xs : List Num) → fold (and_item one_each both_parts) 1 xs ≡ length (x ∷ xs)
count_is_length x xs = omega (arith, fold_count 1 xs)

pub count_folded : (x : Num) (xs : List Num) → fold_and_finish one_each both_parts count_finished (x ∷ xs) ≡ always count_of_values (x ∷ xs)
count_folded x xs = ap count_finished (count_is_length x xs)

pub one_folded : (x : Num) (xs : List Num) → fold_and_finish any both presence_finished (x ∷ xs) ≡ always one_of_values (x ∷ xs)
one_folded x xs = refl
