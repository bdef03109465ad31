-- The label sets that a reader of series has met.
use Rattle.std.specs.Prelude.{ℕ, List, Bool, Option, Some, None}
use Rattle.std.specs.BTreeSet.{BTreeSet, contains_by}
use Rattle.pr_ast.specs.pr_labels.declared.pair.Pair.{Pair}
use Rattle.pr_ast.specs.pr_labels.Order.{labels_cmp}
use Rattle.pr_yaml.specs.Tree.{Tree}
use Rattle.pr_rulefile.specs.Nodes.{line_of}

-- whether a set of label sets has one
abbrev pub knows_labels : BTreeSet (List Pair) → List Pair → Bool
knows_labels sets labels = contains_by (λ l. labels_cmp labels l) sets

-- the line of a value
abbrev pub line_under : Option Tree → ℕ
line_under None = 0
line_under (Some t) = line_of t
