use Rattle.std.proofs.Common.{◌≡◌, drop}
use Rattle.std.specs.List.{list_any}
use Rattle.pr_labels.specs.LabelSet.{has_name}
use Rattle.pr_expo.proofs.expo_line.label_list.stands_among.Given as goal

-- none of the labels so far has the name
abbrev pub invariant-loop-label : goal.invariant-loop-label
invariant-loop-label l = list_any (has_name l.name) (drop l.label-index l.labels) ≡ list_any (has_name l.name) l.labels
