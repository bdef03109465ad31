-- Small vectors to try the definitions on.
use Rattle.std.specs.Prelude.{ℕ, Bool, true, false, cond, List, [], ◌∷◌, ◌++◌, map, codes, Ok, Err, Some, None, int_lt}
use Rattle.pr_num.specs.declared.value.Num.{Num}
use Rattle.pr_num.specs.declared.value.Num.TheVariants.{Finite, NaN}
use Rattle.pr_num.specs.Arithmetic.{product_of, too_wide}
use Rattle.spec_history.specs.pr_labels.declared.pair.Pair.{Pair}
use Rattle.spec_history.specs.pr_labels.declared.item.Item.{Item}
use Rattle.spec_history.specs.pr_labels.declared.matching.Card.{Card}
use Rattle.spec_history.specs.pr_labels.declared.matching.Card.TheVariants.{OneToOne}
use Rattle.spec_history.specs.pr_labels.declared.matching.Matching.{Matching}
use Rattle.spec_history.specs.pr_labels.LabelSet.{metric_label, pair_of}
use Rattle.spec_history.specs.private.Examples.{number}
use Rattle.spec_vectors.specs.Matching.{Operator, always_kept}
use Rattle.spec_vectors.specs.Operators.{Comparison, holds}
use Rattle.spec_vectors.specs.Vectors.{element}

-- the label x, y or z, with a value of one letter or digit
abbrev pub x : List ℕ → Pair
x value = pair_of (codes "x") value

abbrev pub y : List ℕ → Pair
y value = pair_of (codes "y") value

abbrev pub z : List ℕ → Pair
z value = pair_of (codes "z") value

-- an element of the metric a or b
abbrev pub sample : List ℕ → List Pair → Num → Item Num
sample name labels value = element (pair_of metric_label name ∷ labels) value

abbrev pub a : List Pair → ℕ → Item Num
a labels n = sample (codes "a") labels (number n)

abbrev pub b : List Pair → ℕ → Item Num
b labels n = sample (codes "b") labels (number n)

-- a{x="1",z="k"} 6, and b{x="1",y="p"} 2 with b{x="1",y="q"} 3
abbrev pub six : List (Item Num)
six = a (x (codes "1") ∷ z (codes "k") ∷ []) 6 ∷ []

abbrev pub two_three : List (Item Num)
two_three = b (x (codes "1") ∷ y (codes "p") ∷ []) 2 ∷ b (x (codes "1") ∷ y (codes "q") ∷ []) 3 ∷ []

-- a{x="1"} 6 with a{x="2"} 3, and the elements of b with b{x="2"} NaN behind them
abbrev pub six_three : List (Item Num)
six_three = a (x (codes "1") ∷ []) 6 ∷ a (x (codes "2") ∷ []) 3 ∷ []

abbrev pub with_nan : List (Item Num)
with_nan = two_three ++ sample (codes "b") (x (codes "2") ∷ []) NaN ∷ []

-- b{x="1"} 5, and {x="1"} 5
abbrev pub five : List (Item Num)
five = b (x (codes "1") ∷ []) 5 ∷ []

abbrev pub nameless_five : List (Item Num)
nameless_five = element (x (codes "1") ∷ []) (number 5) ∷ []

-- on and ignoring these names, taking these labels
abbrev pub on_names : List (List ℕ) → Card → List (List ℕ) → Matching
on_names names card include = record { on = true; names = names; card = card; include = include }

abbrev pub ignoring_names : List (List ℕ) → Matching
ignoring_names names = record { on = false; names = names; card = OneToOne; include = [] }

abbrev pub on_x : Matching
on_x = on_names (codes "x" ∷ []) OneToOne []

-- the operators *, > as a filter, and one that is too wide for all values
abbrev pub times : Operator
times l r = always_kept (product_of l r)

abbrev pub above : Operator
above (Finite l) (Finite r) = Ok (cond (int_lt r l) (Some (Finite l)) None)
above _ _ = Ok None

abbrev pub never_fits : Operator
never_fits l r = Err too_wide

-- whether a comparison of 1, of 2 and of 3 with 2 holds
abbrev pub against_two : Comparison → List Bool
against_two c = map (λ n. holds c (number n) (number 2)) (1 ∷ 2 ∷ 3 ∷ [])
