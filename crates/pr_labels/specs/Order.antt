-- The order of label sets, and their equality.
use Rattle.std.specs.Prelude.{◌≡◌, ℕ, Bool, ◌&&◌, List, ◌++◌}
use Rattle.std.specs.Str.{bytes_eq}
use Rattle.std.specs.Hash as fed
use Rattle.std.specs.Hash.{Alike, same_Alike, on_Alike, and-Alike, items_Alike}
use Rattle.std.specs.Cmp.Lexicographic.{pointwise, bytes_decides, slice_cmp}
use Rattle.std.specs.declared.cmp.Ordering.{Ordering}
use Rattle.std.specs.Ordering.{nat_cmp, then_cmp, on, is_eq, ordering_then, eq_by_cmp}
use Rattle.std.specs.declared.cmp.Ordering.TheVariants.{Less, Equal, Greater}
use Rattle.std.specs.Cmp.Lexicographic.{texts_ties, lists_ties}
use Rattle.std.proofs.Common.{refl, ◌∙◌}
use Rattle.pr_labels.specs.declared.pair.Pair.{Pair}

abbrev pub pair_eq : Pair → Pair → Bool
pair_eq a b = bytes_eq a.name b.name && bytes_eq a.value b.value

abbrev pub labels_eq : List Pair → List Pair → Bool
labels_eq = pointwise pair_eq

abbrev pub pair_input : Pair → List (List ℕ)
pair_input p = fed.str p.name ++ fed.str p.value

text_alike : Alike bytes_eq fed.str
text_alike = same_Alike fed.str bytes_decides

-- equal label sets are hashed alike
pub labels_alike : Alike labels_eq (fed.slice pair_input)
labels_alike = items_Alike (and-Alike (on_Alike (λ p. p.name) text_alike) (on_Alike (λ p. p.value) text_alike))

abbrev pub pair_cmp : Pair → Pair → Ordering
pair_cmp = then_cmp (on (λ p. p.name) (slice_cmp nat_cmp)) (on (λ p. p.value) (slice_cmp nat_cmp))

-- label order
abbrev pub labels_cmp : List Pair → List Pair → Ordering
labels_cmp = slice_cmp pair_cmp

both_tie : (a b : Ordering) → (is_eq a && is_eq b) ≡ is_eq (ordering_then a b)
both_tie Less b = refl
both_tie Equal b = refl
both_tie Greater b = refl

-- the order of pairs ties exactly equal pairs
pub pair_ties : (x y : Pair) → pair_eq x y ≡ eq_by_cmp pair_cmp x y
pair_ties x y =
    (λ i. texts_ties x.name y.name i && texts_ties x.value y.value i)
    ∙ both_tie (slice_cmp nat_cmp x.name y.name) (slice_cmp nat_cmp x.value y.value)

-- label order ties exactly equal label sets
pub labels_tie : (xs ys : List Pair) → labels_eq xs ys ≡ eq_by_cmp labels_cmp xs ys
labels_tie = lists_ties pair_cmp pair_ties
