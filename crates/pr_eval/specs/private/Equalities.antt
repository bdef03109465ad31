-- What a selector asks for by `=`.
use Rattle.std.specs.Prelude.{ℕ, Bool, List, [], ◌∷◌, ◌++◌, Option, Some, None, is_some}
use Rattle.std.specs.List.{filter_map}
use Rattle.pr_labels.specs.declared.pair.Pair.{Pair}
use Rattle.pr_labels.specs.LabelSet.{metric_label, pair_of}
use Rattle.pr_ast.specs.declared.selector.Selector.{Selector}
use Rattle.pr_ast.specs.declared.selector.MatchText.{MatchText}
use Rattle.pr_ast.specs.declared.selector.MatchSign.{MatchSign}
use Rattle.pr_ast.specs.declared.selector.MatchSign.TheVariants.{Equal, NotEqual, Like, NotLike}

abbrev pub pair_by : MatchSign → Pair → Option Pair
pair_by Equal p = Some p
pair_by NotEqual p = None
pair_by Like p = None
pair_by NotLike p = None

abbrev pub asked_pair : MatchText → Option Pair
asked_pair m = pair_by m.op (pair_of m.label m.text)

abbrev pub name_pairs : Option (List ℕ) → List Pair
name_pairs None = []
name_pairs (Some name) = pair_of metric_label name ∷ []

-- the metric's name, where it stands before the braces, and the pairs of the matchers with `=`
abbrev pub asked_pairs : Selector → List Pair
asked_pairs s = name_pairs s.name ++ filter_map asked_pair s.matchers

-- whether a matcher asks for a pair
abbrev pub is_asked : MatchText → Bool
is_asked m = is_some (asked_pair m)
