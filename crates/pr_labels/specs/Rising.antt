-- Lists of label sets in label order.
use Rattle.std.specs.Prelude.{◌≡◌, Bool, List, [], ◌∷◌}
use Rattle.std.specs.List.{list_any}
use Rattle.std.specs.declared.cmp.Ordering.{Ordering}
use Rattle.std.specs.declared.cmp.Ordering.TheVariants.{Less, Equal, Greater}
use Rattle.pr_labels.specs.declared.pair.Pair.{Pair}
use Rattle.pr_labels.specs.Order.{labels_cmp, labels_eq}

-- each label set is below the next, so that none comes twice
abbrev pub IsBelowFirstSet : List Pair → List (List Pair) → Type 0
IsBelowFirstSet labels [] = Unit {0}
IsBelowFirstSet labels (first ∷ rest) = labels_cmp labels first ≡ Less

abbrev pub IsRising : List (List Pair) → Type 0
IsRising [] = Unit {0}
IsRising (first ∷ rest) = IsBelowFirstSet first rest × IsRising rest

-- whether a label set is one of these
abbrev pub is_among : List Pair → List (List Pair) → Bool
is_among labels sets = list_any (labels_eq labels) sets

-- one label set put into those in label order, unless it is among them
abbrev pub placed : Ordering → List Pair → List Pair → List (List Pair) → List (List Pair) → List (List Pair)
placed Less labels first rest more = labels ∷ first ∷ rest
placed Equal labels first rest more = first ∷ rest
placed Greater labels first rest more = first ∷ more

abbrev pub with_labels : List (List Pair) → List Pair → List (List Pair)
with_labels [] labels = labels ∷ []
with_labels (first ∷ rest) labels = placed (labels_cmp labels first) labels first rest (with_labels rest labels)
