use Rattle.pr_labels.proofs.LabelOrder.{labels_total, labels_decide, tied}
use Rattle.pr_labels.proofs.order_laws.label_order_is_total.Goals as goal

pub returns-clause-total : goal.returns-clause-total
returns-clause-total c = labels_total

pub returns-clause-decided : goal.returns-clause-decided
returns-clause-decided c = labels_decide

pub returns-clause-tied : goal.returns-clause-tied
returns-clause-tied c = tied
