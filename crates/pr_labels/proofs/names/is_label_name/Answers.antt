use Rattle.pr_labels.proofs.Ascii.{label_text_where}
use Rattle.pr_labels.proofs.names.is_label_name.Goals as goal

pub returns-clause-text : goal.returns-clause-text
returns-clause-text c = label_text_where c.has_label_form.result c.args.name.now c.has_label_form.ensures
