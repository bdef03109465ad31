use Rattle.pr_labels.proofs.Ascii.{text_where}
use Rattle.pr_labels.proofs.names.is_metric_name.Goals as goal

pub returns-clause-text : goal.returns-clause-text
returns-clause-text c = text_where c.has_metric_form.result c.args.name.now c.has_metric_form.ensures
