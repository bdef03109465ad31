use Rattle.pr_labels.proofs.LabelOrder.{same_rising}
use Rattle.pr_labels.proofs.order_laws.rising_lists_are_told_by_their_label_sets.Goals as goal

pub returns : goal.returns
returns c = same_rising
