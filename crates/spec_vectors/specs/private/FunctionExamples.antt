-- Small vectors to try the definitions of functions on. Values are written as number texts.
use Rattle.std.specs.Prelude.{ℕ, List, [], ◌∷◌, codes}
use Rattle.pr_num.specs.declared.value.Num.{Num}
use Rattle.pr_num.specs.private.Worked.{num}
use Rattle.spec_history.specs.pr_labels.declared.item.Item.{Item}
use Rattle.spec_history.specs.pr_labels.LabelSet.{pair_of}
use Rattle.spec_vectors.specs.Vectors.{element}
use Rattle.spec_vectors.specs.private.Examples.{sample, x}

-- a{x="1"} and {x="1"} with a value, alone
abbrev pub one : List ℕ → List (Item Num)
one text = sample (codes "a") (x (codes "1") ∷ []) (num text) ∷ []

abbrev pub nameless : List ℕ → List (Item Num)
nameless text = element (x (codes "1") ∷ []) (num text) ∷ []

-- a{x=".."} with a value
abbrev pub at_x : List ℕ → List ℕ → Item Num
at_x value text = sample (codes "a") (x value ∷ []) (num text)

-- a{x="1"} and a{x="2"}; b{x="2"}, b{x="1"} and then the same of a, which have equal labels without
-- their names
abbrev pub two : List (Item Num)
two = at_x (codes "1") (codes "1") ∷ at_x (codes "2") (codes "3") ∷ []

abbrev pub twice : List ℕ → List (Item Num)
twice text =
    sample (codes "b") (x (codes "2") ∷ []) (num (codes "5")) ∷ sample (codes "b") (x (codes "1") ∷ []) (num (codes "6"))
    ∷ at_x (codes "2") (codes "3") ∷ at_x (codes "1") text ∷ []

-- a bucket of a histogram, and one of the histogram at a place
abbrev pub le : List ℕ → List ℕ → Item Num
le bound count = sample (codes "h_bucket") (pair_of (codes "le") bound ∷ []) (num count)

abbrev pub le_at : List ℕ → List ℕ → List ℕ → Item Num
le_at place bound count = sample (codes "h_bucket") (pair_of (codes "le") bound ∷ x place ∷ []) (num count)

abbrev pub three : List (Item Num)
three = le (codes "+Inf") (codes "10") ∷ le (codes "0.1") (codes "5") ∷ le (codes "0.2") (codes "8") ∷ []

-- the only element of an answer without labels
abbrev pub alone : List ℕ → List (Item Num)
alone text = element [] (num text) ∷ []
