-- Functions that set a label of each element; values and the other labels stay, the metric's name
-- too.
use Rattle.std.specs.Prelude.{ℕ, List, [], ◌∷◌, ◌++◌, map, Option, Some, None, Result}
use Rattle.pr_num.specs.declared.value.Num.{Num}
use Rattle.spec_history.specs.pr_labels.declared.pair.Pair.{Pair}
use Rattle.spec_history.specs.pr_labels.declared.item.Item.{Item}
use Rattle.spec_history.specs.pr_labels.Edits.{set_label}
use Rattle.spec_history.specs.pr_labels.LabelSet.{text_at}
use Rattle.spec_vectors.specs.declared.function_fault.FunctionFault.{FunctionFault}
use Rattle.spec_vectors.specs.Vectors.{element}
use Rattle.spec_vectors.specs.Functions.{told_apart}

-- What is made of the text of a label, and nothing where it is not of the form that is asked for.
abbrev pub Expansion : Type 0
Expansion = List ℕ → Option (List ℕ)

-- The label is set to what is made of another label's text; an absent label is the empty text, and
-- an empty text removes the label.
abbrev pub set_if_any : List Pair → List ℕ → Option (List ℕ) → List Pair
set_if_any labels name None = labels
set_if_any labels name (Some text) = set_label labels name text

abbrev pub with_expansion : List ℕ → List ℕ → Expansion → Item Num → Item Num
with_expansion name source expansion e = element (set_if_any e.labels name (expansion (text_at e.labels source))) e.value

abbrev pub label_replaced : List ℕ → List ℕ → Expansion → List (Item Num) → Result (List (Item Num)) FunctionFault
label_replaced name source expansion items = told_apart (map (with_expansion name source expansion) items)

-- The label is set to the texts of other labels with a separator between each two.
abbrev pub separated : List ℕ → List (List ℕ) → List ℕ
separated separator [] = []
separated separator (text ∷ []) = text
separated separator (text ∷ next ∷ more) = text ++ separator ++ separated separator (next ∷ more)

abbrev pub joined_text : List ℕ → List (List ℕ) → List Pair → List ℕ
joined_text separator names labels = separated separator (map (text_at labels) names)

abbrev pub with_joined : List ℕ → List ℕ → List (List ℕ) → Item Num → Item Num
with_joined name separator names e = element (set_label e.labels name (joined_text separator names e.labels)) e.value

abbrev pub label_joined : List ℕ → List ℕ → List (List ℕ) → List (Item Num) → Result (List (Item Num)) FunctionFault
label_joined name separator names items = told_apart (map (with_joined name separator names) items)
