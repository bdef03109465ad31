use Rattle.std.proofs.Common.{◌≡◌, ◌++◌, drop}
use Rattle.pr_labels.specs.Edits.{union_labels}
use Rattle.pr_labels.specs.LabelSet.{IsLabelSet}
use Rattle.pr_labels.proofs.labels.made.merged.Given as goal

-- what is done, and what is to be merged
abbrev pub invariant-loop-label : goal.invariant-loop-label
invariant-loop-label l = record {
  set : IsLabelSet l.left;
  merged : l.pairs.items ++ union_labels l.left (drop l.label-index l.over) ≡ union_labels l.own l.over;
}
