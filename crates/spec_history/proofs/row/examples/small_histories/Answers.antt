use Rattle.std.proofs.Common.{refl}
use Rattle.pr_num.specs.Half.{half_abs}
use Rattle.pr_num.specs.Reads.{reads}
use Rattle.pr_num.specs.Shown.{shown}
use Rattle.pr_labels.specs.SeriesText.{series_text}
use Rattle.pr_labels.proofs.SeriesExamples.{metric}
use Rattle.spec_history.specs.Rows.{decoded}
use Rattle.spec_history.proofs.HistoryLaws.{one}
use Rattle.spec_history.proofs.row.examples.small_histories.Goals as goal

pub returns-clause-good : goal.returns-clause-good
unfolding half_abs reads shown series_text decoded
returns-clause-good c = rw (metric, one) refl

pub returns-clause-marked : goal.returns-clause-marked
unfolding half_abs reads shown series_text decoded
returns-clause-marked c = rw (metric, one) refl

pub returns-clause-no_row : goal.returns-clause-no_row
unfolding half_abs reads shown series_text decoded
returns-clause-no_row c = rw (metric, one) refl

pub returns-clause-same : goal.returns-clause-same
unfolding half_abs reads shown series_text decoded
returns-clause-same c = rw (metric, one) refl

pub returns-clause-conflict : goal.returns-clause-conflict
unfolding half_abs reads shown series_text decoded
returns-clause-conflict c = rw (metric, one) refl

pub returns-clause-older : goal.returns-clause-older
unfolding half_abs reads shown series_text decoded
returns-clause-older c = rw (metric, one) refl
