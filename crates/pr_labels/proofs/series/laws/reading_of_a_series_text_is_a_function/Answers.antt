use Rattle.pr_labels.proofs.SeriesEnds.{pairs_read, pairs_given, labels_read, reading_given, place_given}
use Rattle.pr_labels.proofs.series.laws.reading_of_a_series_text_is_a_function.Goals as goal

pub returns-clause-reads : goal.returns-clause-reads
returns-clause-reads c = λ text pairs e. pairs_read text pairs e

pub returns-clause-given : goal.returns-clause-given
returns-clause-given c = λ text pairs d. pairs_given text pairs d

pub returns-clause-labels : goal.returns-clause-labels
returns-clause-labels c = λ text ls e. labels_read text ls e

pub returns-clause-place : goal.returns-clause-place
returns-clause-place c = λ text. place_given text

pub returns-clause-labels_given : goal.returns-clause-labels_given
returns-clause-labels_given c = λ text ls r. reading_given text ls r
