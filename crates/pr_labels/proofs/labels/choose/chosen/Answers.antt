use Rattle.pr_labels.proofs.LabelSets.{chosen_are_set}
use Rattle.pr_labels.proofs.labels.choose.chosen.Goals as goal

pub returns-clause-set : goal.returns-clause-set
returns-clause-set c =
    chosen_are_set _ c.args.pairs.now c.copies_of.result c.requires c.copies_of.ensures
