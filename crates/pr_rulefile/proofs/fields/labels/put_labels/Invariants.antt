use Rattle.std.proofs.Common.{◌≡◌, map, length}
use Rattle.pr_yaml.specs.Tree.{entry_tree_of}
use Rattle.pr_rulefile.specs.Labels.{put_labels}
use Rattle.pr_rulefile.proofs.fields.labels.put_labels.Given as goal

-- the labels that are left make of those so far what all make of those at the start
abbrev pub invariant-fields : goal.invariant-fields
invariant-fields l = put_labels l.labels.entries (map entry_tree_of l.rest) ≡ put_labels l.initial.labels.entries (map entry_tree_of l.entries)

abbrev pub decreases-fields : goal.decreases-fields
decreases-fields l = length l.rest
