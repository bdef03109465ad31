use Rattle.std.proofs.Common.{◌≡◌, ◌++◌, [], map, length}
use Rattle.std.specs.List.{filter_map}
use Rattle.pr_yaml.specs.Tree.{tree_of}
use Rattle.pr_rulefile.specs.Nodes.{text_of}
use Rattle.pr_testfile.proofs.labels.texts_of.Given as goal

abbrev pub invariant-items : goal.invariant-items
invariant-items l = l.texts ++ filter_map text_of (map tree_of l.rest) ≡ filter_map text_of (map tree_of l.items)

abbrev pub decreases-items : goal.decreases-items
decreases-items l = length l.rest
