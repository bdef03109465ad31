-- The set of pairs with distinct names is what remains of them, sorted.
use Rattle.std.proofs.Common.{◌≡◌, ℕ, List, [], ◌∷◌, true, false, Bool, not, filter, None, is_some, length, ◌==◌, refl, ap, sym, ◌∙◌}
use Rattle.std.proofs.lemmas.List.Sorted.{sum_by-IsPermutation}
use Rattle.std.specs.Cmp.Lexicographic.{slice_cmp}
use Rattle.std.specs.List.{AllByRecursion, sum_by}
use Rattle.std.specs.List.Sorted.{IsPermutation, IsSorted}
use Rattle.std.specs.Ordering.{nat_cmp, is_gt, ordering_then}
use Rattle.std.specs.declared.cmp.Ordering.{Ordering}
use Rattle.pr_labels.specs.declared.pair.Pair.{Pair}
use Rattle.pr_labels.specs.Edits.{first_fault, has_value, labels_of, value_if_any}
use Rattle.pr_labels.specs.LabelSet.{IsLabelSet, IsBelowFirst}
use Rattle.pr_labels.specs.Order.{pair_cmp}
use Rattle.pr_labels.proofs.LabelLaws.{made_is_set}
use Rattle.pr_labels.proofs.LabelOrder.{pair_total, pair_tied}
use Rattle.pr_labels.proofs.LabelSets.{below_next}
use Rattle.pr_labels.proofs.Permuted.{made_of_all}
use Rattle.pr_labels.proofs.Putting.{not_zero}
use Rattle.pr_labels.proofs.Sorted.{IsUp, sorted_is}

-- names that rise let pairs rise
all_behind : (p : Pair) (ps : List Pair) → IsLabelSet ps → IsBelowFirst p.name ps → AllByRecursion (λ q. is_gt (pair_cmp p q) ≡ false) ps
all_behind p [] s b = tt
all_behind p (q ∷ qs) s b =
    (ap (λ (o : Ordering). is_gt (ordering_then o (slice_cmp nat_cmp p.value q.value))) b, all_behind p qs s.2 (below_next p.name q qs b s.1))

set_up : (ls : List Pair) → IsLabelSet ls → IsUp pair_cmp ls
set_up [] s = tt
set_up (p ∷ ps) s = (all_behind p ps s.2 s.1, set_up ps s.2)

pub sorted_set : (pairs kept sorted : List Pair) → first_fault pairs ≡ None → kept ≡ filter has_value pairs → IsPermutation kept sorted → IsSorted pair_cmp sorted → sorted ≡ labels_of pairs
sorted_set pairs kept sorted f e p s =
    sorted_is pair_cmp pair_total pair_tied (labels_of pairs) sorted kept p s (set_up (labels_of pairs) (made_is_set pairs f))
    (λ g. sum_by-IsPermutation g (filter has_value pairs) (labels_of pairs) (made_of_all pairs f) ∙ sym (ap (sum_by g) e))

pub sorted_is_set : (pairs sorted : List Pair) → first_fault pairs ≡ None → sorted ≡ labels_of pairs → IsLabelSet sorted
sorted_is_set pairs sorted f e = rw e (made_is_set pairs f)

-- the test for a value
pub value_test : (value : List ℕ) (test : Bool) → test ≡ (length value == 0) → not test ≡ is_some (value_if_any value)
value_test [] test e = ap not e
value_test (b ∷ bs) true e = absurd (not_zero (length bs) true refl e)
value_test (b ∷ bs) false e = refl
