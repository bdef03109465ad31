-- Labels and annotations that are expected, or that templates see.
use Rattle.std.specs.Prelude.{List, [], Option, Some, None}
use Rattle.pr_ast.specs.pr_labels.declared.fault.LabelFault.{LabelFault}
use Rattle.pr_ast.specs.pr_labels.declared.pair.Pair.{Pair}
use Rattle.pr_ast.specs.pr_labels.Edits.{labels_of, first_fault}
use Rattle.pr_yaml.specs.Tree.{EntryTree}
use Rattle.pr_rulefile.specs.Labels.{put_labels, pairs_of}

-- annotations, of which empty ones stay
unfoldable pub notes_of : List EntryTree → List Pair
notes_of es = pairs_of (put_labels [] es)

-- Labels, of which one with an empty value is none. Where a name is none of a label, there are none
-- at all.
abbrev pub unless_faulty : List Pair → Option LabelFault → List Pair
unless_faulty pairs None = labels_of pairs
unless_faulty pairs (Some f) = []

unfoldable pub label_set : List EntryTree → List Pair
label_set es = unless_faulty (notes_of es) (first_fault (notes_of es))
