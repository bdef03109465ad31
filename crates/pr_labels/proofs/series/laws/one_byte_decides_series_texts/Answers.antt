use Rattle.pr_labels.proofs.SeriesTable.{known}
use Rattle.pr_labels.proofs.SeriesEnds as ending
use Rattle.pr_labels.proofs.series.laws.one_byte_decides_series_texts.Goals as goal

pub returns-clause-decided : goal.returns-clause-decided
returns-clause-decided c = known

pub returns-clause-ends : goal.returns-clause-ends
returns-clause-ends c = ending.ends
