use Rattle.std.proofs.Common.{◌≡◌, fold, length}
use Rattle.pr_labels.specs.LabelSet.{IsLabelSet}
use Rattle.pr_manager.specs.spec_world.Scrapes.{with_free_name}
use Rattle.pr_engine.specs.private.ByName.{labels_in}
use Rattle.pr_engine.proofs.scrape.named.rename_all.Given as goal

-- the labels that are left come to the same as all did at the start
abbrev pub invariant-renaming : goal.invariant-renaming
invariant-renaming l = record {
  set : IsLabelSet (labels_in l.named.entries);
  left : IsLabelSet l.rest;
  renamed : fold (with_free_name l.target) (labels_in l.named.entries) l.rest ≡ fold (with_free_name l.target) (labels_in l.initial.named.entries) l.pairs;
}

abbrev pub decreases-renaming : goal.decreases-renaming
decreases-renaming l = length l.rest
