use Rattle.pr_labels.proofs.PartsRead.{series_read}
use Rattle.pr_labels.proofs.PartsKnown.{series_known}
use Rattle.pr_labels.proofs.series.laws.series_text_is_name_and_pairs.Goals as goal

pub returns-clause-read : goal.returns-clause-read
returns-clause-read c = series_read

pub returns-clause-only : goal.returns-clause-only
returns-clause-only c = series_known
