use Rattle.std.proofs.Common.{true}
use Rattle.pr_rulefile.proofs.LabelPairs.{good_pairs, free_names, are_templates}
use Rattle.pr_rulefile.proofs.fields.laws.good_labels_have_free_names.Goals as goal

pub returns-clause-names : goal.returns-clause-names
returns-clause-names c = λ templates t h. free_names templates _ (good_pairs templates t h)

pub returns-clause-templates : goal.returns-clause-templates
returns-clause-templates c = λ t h. are_templates _ (good_pairs true t h)
