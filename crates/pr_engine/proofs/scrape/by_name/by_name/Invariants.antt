use Rattle.std.proofs.Common.{◌≡◌, fold, length}
use Rattle.pr_labels.specs.Edits.{labels_of, set_pair}
use Rattle.pr_labels.specs.LabelSet.{IsLabelSet}
use Rattle.pr_engine.specs.private.ByName.{labels_in}
use Rattle.pr_engine.proofs.scrape.by_name.by_name.Given as goal

-- those that are left are a label set, and come to all
abbrev pub invariant-naming : goal.invariant-naming
invariant-naming l = record {
  set : IsLabelSet (labels_in l.named.entries);
  left : IsLabelSet l.rest;
  all : fold set_pair (labels_in l.named.entries) l.rest ≡ labels_of l.pairs;
}

abbrev pub decreases-naming : goal.decreases-naming
decreases-naming l = length l.rest
