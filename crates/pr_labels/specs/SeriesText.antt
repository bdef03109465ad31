-- The printed text of a label set.
use Rattle.std.specs.Prelude.{ℕ, Bool, true, false, cond, List, [], ◌∷◌, ◌++◌, codes, flat_map, Option, Some, None}
use Rattle.pr_words.specs.Quoted.{quoted_text}
use Rattle.pr_labels.specs.declared.pair.Pair.{Pair}
use Rattle.pr_labels.specs.Edits.{without_name}
use Rattle.pr_labels.specs.Names.{is_metric_name}
use Rattle.pr_labels.specs.LabelSet.{metric_label, value_of}

abbrev pub pair_text : Pair → List ℕ
pair_text p = p.name ++ (codes "=" ++ quoted_text p.value)

-- a pair that is not the first has a comma before it
abbrev pub following_text : Pair → List ℕ
following_text p = codes "," ++ pair_text p

abbrev pub pairs_text : List Pair → List ℕ
pairs_text [] = []
pairs_text (p ∷ ps) = pair_text p ++ flat_map following_text ps

-- the pairs in braces, with commas between
abbrev pub list_text : List Pair → List ℕ
list_text pairs = codes "{" ++ pairs_text pairs ++ codes "}"

-- the pairs in braces, where there are any
abbrev pub rest_text : List Pair → List ℕ
rest_text [] = []
rest_text (p ∷ ps) = list_text (p ∷ ps)

-- what stands before a pair of a list that is open, or of one that is not
abbrev pub opening : Bool → List ℕ
opening true = codes ","
opening false = codes "{"

-- the pairs but that of the metric's name
abbrev pub unnamed : List Pair → List Pair
unnamed labels = without_name labels metric_label

-- what is still to be written of a list that has started, or not, and has these pairs left
abbrev pub left_text : Bool → List Pair → List ℕ
left_text true pairs = flat_map following_text (unnamed pairs) ++ codes "}"
left_text false pairs = rest_text (unnamed pairs)

-- the metric's name stands first where it is a classic name, and else among the pairs
abbrev pub text_by_name : Option (List ℕ) → List Pair → List ℕ
text_by_name None labels = list_text labels
text_by_name (Some name) labels = cond (is_metric_name name) (name ++ rest_text (unnamed labels)) (list_text labels)

unfoldable pub series_text : List Pair → List ℕ
series_text labels = text_by_name (value_of labels metric_label) labels
