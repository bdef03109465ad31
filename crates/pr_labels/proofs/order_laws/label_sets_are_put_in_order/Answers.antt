use Rattle.pr_labels.proofs.LabelOrder.{rising_fold, among_fold, among_filter}
use Rattle.pr_labels.proofs.order_laws.label_sets_are_put_in_order.Goals as goal

pub returns-clause-rising : goal.returns-clause-rising
returns-clause-rising c = rising_fold

pub returns-clause-among : goal.returns-clause-among
returns-clause-among c = among_fold

pub returns-clause-filtered : goal.returns-clause-filtered
returns-clause-filtered c = among_filter
