use Rattle.pr_text.proofs.Samples.{is_sample, is_series}
use Rattle.pr_text.proofs.script.laws.samples_have_label_sets.Goals as goal

pub returns-clause-sample : goal.returns-clause-sample
returns-clause-sample c = λ text ls u r. is_sample text ls u r

pub returns-clause-series : goal.returns-clause-series
returns-clause-series c = λ text ls e. is_series text ls e
