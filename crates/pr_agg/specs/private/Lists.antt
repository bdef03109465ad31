-- Values gathered as lists.
use Rattle.std.specs.Prelude.{List, [], ◌∷◌, ◌++◌, map}
use Rattle.pr_num.specs.declared.value.Num.{Num}
use Rattle.pr_window.specs.pr_labels.declared.pair.Pair.{Pair}
use Rattle.pr_window.specs.pr_labels.declared.item.Item.{Item}
use Rattle.pr_window.specs.spec_vectors.Vectors.{element}
use Rattle.pr_window.specs.spec_vectors.Aggregation.{quantile_of_values}

-- a value alone, and the values of two parts
abbrev pub alone : Num → List Num
alone v = v ∷ []

abbrev pub one_after_other : List Num → List Num → List Num
one_after_other a b = a ++ b

-- the quantile of the values of an entry
abbrev pub group_quantile : Num → List Pair × List Num → Item Num
group_quantile phi e = element e.0 (quantile_of_values phi e.1)

abbrev pub quantiles_in : Num → List (List Pair × List Num) → List (Item Num)
quantiles_in phi entries = map (group_quantile phi) entries
