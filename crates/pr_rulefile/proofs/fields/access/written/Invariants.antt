use Rattle.std.proofs.Common.{◌≡◌, map, length}
use Rattle.pr_yaml.specs.Tree.{entry_tree_of}
use Rattle.pr_rulefile.specs.Nodes.{written}
use Rattle.pr_rulefile.proofs.fields.access.written.Given as goal

-- what is found in the fields that are left is found in all
abbrev pub invariant-fields : goal.invariant-fields
invariant-fields l = written l.key (map entry_tree_of l.rest) ≡ written l.key (map entry_tree_of l.entries)

abbrev pub decreases-fields : goal.decreases-fields
decreases-fields l = length l.rest
