-- An ordered map as elements.
use Rattle.std.specs.Prelude.{List, [], ◌∷◌}
use Rattle.pr_ast.specs.pr_num.declared.value.Num.{Num}
use Rattle.pr_labels.specs.declared.item.Item.{Item}
use Rattle.pr_labels.specs.declared.pair.Pair.{Pair}
use Rattle.spec_rules.specs.spec_history.Series.{element}

abbrev pub items_of : List (List Pair × Num) → List (Item Num)
items_of [] = []
items_of (e ∷ es) = element e.0 e.1 ∷ items_of es
