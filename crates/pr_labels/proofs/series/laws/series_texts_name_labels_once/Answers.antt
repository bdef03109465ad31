use Rattle.pr_labels.proofs.SeriesNames.{series_faultless}
use Rattle.pr_labels.proofs.series.laws.series_texts_name_labels_once.Goals as goal

pub returns : goal.returns
returns c = λ text pairs d. series_faultless text pairs d
