-- The labels of what is absent.
use Rattle.std.specs.Prelude.{ℕ, Bool, true, false, not, ◌&&◌, cond, pos, List, [], ◌∷◌, ◌++◌}
use Rattle.std.specs.List.{list_any}
use Rattle.std.specs.Str.{bytes_eq}
use Rattle.pr_num.specs.declared.value.Num.{Num}
use Rattle.pr_num.specs.Arithmetic.{whole_of}
use Rattle.pr_ast.specs.pr_labels.declared.pair.Pair.{Pair}
use Rattle.pr_ast.specs.pr_labels.declared.item.Item.{Item}
use Rattle.pr_ast.specs.pr_labels.Edits.{labels_of}
use Rattle.pr_ast.specs.pr_labels.LabelSet.{metric_label, pair_of}
use Rattle.pr_ast.specs.pr_labels.Names.{is_label_name}
use Rattle.pr_ast.specs.declared.selector.MatchText.{MatchText}
use Rattle.pr_ast.specs.declared.selector.MatchSign.{MatchSign}
use Rattle.pr_ast.specs.declared.selector.MatchSign.TheVariants.{Equal, NotEqual, Like, NotLike}
use Rattle.pr_ast.specs.Tree.{Tree, select, range, none, more}
use Rattle.spec_vectors.specs.Vectors.{element}

abbrev pub is_equality : MatchSign → Bool
is_equality Equal = true
is_equality NotEqual = false
is_equality Like = false
is_equality NotLike = false

abbrev pub is_on : List ℕ → MatchText → Bool
is_on label m = bytes_eq m.label label

-- A matcher tells a label of what is absent where it is one by `=`, on a label name (as each of a
-- text is), not on the metric's name, the last matcher of its label, and the only one of it by `=`.
abbrev pub tells : List MatchText → MatchText → List MatchText → Bool
tells before m after =
    is_equality m.op && is_label_name m.label
    && not (bytes_eq m.label metric_label) && not (list_any (is_on m.label) after)
    && not (list_any (λ o. is_on m.label o && is_equality o.op) before)

abbrev pub told_pairs : List MatchText → List MatchText → List Pair
told_pairs before [] = []
told_pairs before (m ∷ after) = cond (tells before m after) (pair_of m.label m.text ∷ told_pairs (before ++ m ∷ []) after) (told_pairs (before ++ m ∷ []) after)

-- The labels that a selector tells; every other expression tells none.
abbrev pub absent_labels : Tree → List Pair
absent_labels (select p s) = labels_of (told_pairs [] s.matchers)
absent_labels (range p s d) = labels_of (told_pairs [] s.matchers)
absent_labels _ = []

-- the labels of the one argument of a call
abbrev pub labels_of_argument : Tree → List Pair
labels_of_argument (more none t) = absent_labels t
labels_of_argument _ = []

-- one element of value 1 where there is nothing, and nothing where there is something
abbrev pub absent_of : List Pair → List (Item Num) → List (Item Num)
absent_of labels [] = element labels (whole_of (pos 1)) ∷ []
absent_of labels (e ∷ items) = []
