-- Small vectors to aggregate.
use Rattle.std.specs.Prelude.{ℕ, ◌*◌, ◌^◌, ◌-◌, true, false, pos, List, [], ◌∷◌, codes}
use Rattle.pr_num.specs.declared.value.Num.{Num}
use Rattle.pr_num.specs.declared.value.Num.TheVariants.{Finite, NaN}
use Rattle.spec_history.specs.pr_labels.declared.item.Item.{Item}
use Rattle.spec_history.specs.pr_labels.declared.grouping.Grouping.{Grouping}
use Rattle.spec_history.specs.private.Examples.{number}
use Rattle.spec_vectors.specs.Vectors.{element}
use Rattle.spec_vectors.specs.private.Examples.{sample, x, y}

-- a{x="1"} 1, a{x="2"} 3
abbrev pub one_three : List (Item Num)
one_three = sample (codes "a") (x (codes "1") ∷ []) (number 1) ∷ sample (codes "a") (x (codes "2") ∷ []) (number 3) ∷ []

-- a{x="1",y="p"} 5, a{x="1",y="q"} NaN, a{x="2",y="p"} 5, a{x="2",y="q"} 2
abbrev pub four : List (Item Num)
four =
    sample (codes "a") (x (codes "1") ∷ y (codes "p") ∷ []) (number 5) ∷ sample (codes "a") (x (codes "1") ∷ y (codes "q") ∷ []) NaN
    ∷ sample (codes "a") (x (codes "2") ∷ y (codes "p") ∷ []) (number 5) ∷ sample (codes "a") (x (codes "2") ∷ y (codes "q") ∷ []) (number 2) ∷ []

abbrev pub by_nothing : Grouping
by_nothing = record { by = true; names = [] }

abbrev pub by_x : Grouping
by_x = record { by = true; names = codes "x" ∷ [] }

abbrev pub without_x : Grouping
without_x = record { by = false; names = codes "x" ∷ [] }

-- 0.5
abbrev pub one_half : Num
one_half = Finite (pos (5 * 10 ^ 8))

-- an element without labels
abbrev pub bare : Num → Item Num
bare value = element [] value

-- elements with the label x alone
abbrev pub at_x : List ℕ → Num → Item Num
at_x value n = element (x value ∷ []) n

-- a{x="1"} NaN, a{x="2"} NaN
abbrev pub all_not_numbers : List (Item Num)
all_not_numbers = sample (codes "a") (x (codes "1") ∷ []) NaN ∷ sample (codes "a") (x (codes "2") ∷ []) NaN ∷ []

-- the greatest finite value twice
abbrev pub widest_twice : List (Item Num)
widest_twice =
    sample (codes "a") (x (codes "1") ∷ []) (Finite (pos (10 ^ 29 - 1))) ∷ sample (codes "a") (x (codes "2") ∷ []) (Finite (pos (10 ^ 29 - 1))) ∷ []
