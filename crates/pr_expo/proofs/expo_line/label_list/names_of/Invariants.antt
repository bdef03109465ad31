use Rattle.std.proofs.Common.{◌≡◌, ◌||◌, ℕ, List, drop}
use Rattle.std.specs.List.{list_any}
use Rattle.pr_labels.specs.LabelSet.{has_name}
use Rattle.pr_expo.specs.private.KnownNames.{knows_name}
use Rattle.pr_expo.proofs.expo_line.label_list.names_of.Given as goal

-- the names so far, and those of the labels that are left, are those of all
abbrev pub invariant-loop-label : goal.invariant-loop-label
invariant-loop-label l = (name : List ℕ) → (knows_name l.names name || list_any (has_name name) (drop l.label-index l.labels)) ≡ list_any (has_name name) l.labels
