-- Series by their numbers and by their labels.
use Rattle.std.proofs.Common.{◌≡◌, ℕ, suc, ◌+◌, ◌<◌, Bool, true, false, List, [], ◌∷◌, length, get_or, map, slice_get, Some, refl, sym, ap, subst, ◌∙◌, arith}
use Rattle.std.specs.List.{All, slice_index_or}
use Rattle.std.proofs.lemmas.List.{length-map}
use Rattle.std.proofs.lemmas.List.Sums.{position_or_len_is, sum_by-cons}
use Rattle.std.proofs.lemmas.Option.{slice_get-get_or}
use Rattle.pr_labels.specs.declared.pair.Pair.{Pair}
use Rattle.pr_labels.specs.Order.{labels_eq}
use Rattle.pr_range.specs.spec_history.declared.entry.Entry.{Entry}
use Rattle.pr_range.specs.pr_head.private.Stored.{Stored}
use Rattle.pr_range.specs.pr_head.private.Holds.{arrivals, labels_at, sets_of}
use Rattle.pr_range.proofs.HeadArrivals.{arrivals_apart, eq_from, eq_same}
use Rattle.pr_range.specs.spec_vectors.declared.range.Ask.{Ask}
use Rattle.pr_range.specs.spec_vectors.private.Laws.{ask_cost}
use Rattle.pr_range.specs.private.Asks.{passed_for}
use Rattle.pr_eval.specs.private.RangeCallsAsking.{asks_cost, series_number, numbers_cost}

-- the number of the series that has a number
number_at : (history : List Entry) (n : ℕ) → n < length (arrivals history) → series_number history (labels_at (arrivals history) n) ≡ n
number_at history n h =
    let sets = arrivals history in
    let here = slice_get-get_or sets n [] h in
    position_or_len_is (labels_eq (labels_at sets n)) sets n [] (omega arith)
    (λ k below. by k (labels_eq (labels_at sets n) (get_or sets k [])) refl below (slice_get-get_or sets k [] (omega arith)) here)
    (λ within. eq_same (labels_at sets n)) where
      by : (k : ℕ) (b : Bool) → labels_eq (labels_at (arrivals history) n) (get_or (arrivals history) k []) ≡ b → k < n → slice_get (arrivals history) k ≡ Some (get_or (arrivals history) k [])
          → slice_get (arrivals history) n ≡ Some (labels_at (arrivals history) n) → labels_eq (labels_at (arrivals history) n) (get_or (arrivals history) k []) ≡ false
      by k true e below at here =
          let same = eq_from (labels_at (arrivals history) n) (get_or (arrivals history) k []) e in
          let is = arrivals_apart history k n (labels_at (arrivals history) n) (at ∙ ap Some (sym same)) here in
          absurd (omega arith)
      by k false e below at here = e

all_tail : (n : ℕ) (numbers : List ℕ) (m : ℕ) → All (λ i. i < m) (n ∷ numbers) → All (λ i. i < m) numbers
all_tail n numbers m h = λ k d within. h (suc k) d (omega arith)

pub numbers_are : (history : List Entry) (numbers : List ℕ) → All (λ i. i < length (arrivals history)) numbers → map (series_number history) (map (labels_at (arrivals history)) numbers) ≡ numbers
numbers_are history [] h = refl
numbers_are history (n ∷ numbers) h = λ i. number_at history n (h 0 0 (omega arith)) i ∷ numbers_are history numbers (all_tail n numbers (length (arrivals history)) h) i

pub cost_is : (history : List Entry) (a : Ask) (p : ℕ → ℕ) (numbers : List ℕ) → All (λ i. i < length (arrivals history)) numbers
    → asks_cost history a (λ labels. p (series_number history labels)) (map (labels_at (arrivals history)) numbers) ≡ numbers_cost history a p numbers
cost_is history a p [] h = refl
cost_is history a p (n ∷ numbers) h =
    let f = labels_at (arrivals history) in
    let by_labels : List Pair → ℕ = λ labels. ask_cost history labels a (passed_for a (p (series_number history labels))) in
    let by_number : ℕ → ℕ = λ m. ask_cost history (f m) a (passed_for a (p m)) in
    let first : by_labels (f n) ≡ by_number n = ap (λ m. ask_cost history (f n) a (passed_for a (p m))) (number_at history n (h 0 0 (omega arith))) in
    let rest : asks_cost history a (λ labels. p (series_number history labels)) (map f numbers) ≡ numbers_cost history a p numbers = cost_is history a p numbers (all_tail n numbers (length (arrivals history)) h) in
    sum_by-cons by_labels (f n) (map f numbers) ∙ (λ i. first i + rest i) ∙ sym (sum_by-cons by_number n numbers)

pub within_arrivals : (head : List (List Pair × Stored)) (history : List Entry) (numbers : List ℕ) → sets_of head ≡ arrivals history → All (λ i. i < length head) numbers → All (λ i. i < length (arrivals history)) numbers
within_arrivals head history numbers same h =
    let size : length (arrivals history) ≡ length head = ap length (sym same) ∙ length-map head (λ (e : List Pair × Stored). e.0) in
    λ k d within. subst (λ n. slice_index_or numbers k d < n) (sym size) (h k d within)
