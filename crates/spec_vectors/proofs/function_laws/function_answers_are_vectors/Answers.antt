use Rattle.std.proofs.Common.{[], map, filter}
use Rattle.spec_history.proofs.LabelsLabelOrder.{rising_fold}
use Rattle.spec_vectors.specs.LabelFunctions.{with_expansion, with_joined}
use Rattle.spec_vectors.specs.Histogram.{buckets_in, histogram_labels, histogram_value, histograms, is_bucket}
use Rattle.spec_vectors.proofs.FunctionAnswers.{apart_vector, mapped_vector, clamped_vector, rising_answer}
use Rattle.spec_vectors.proofs.function_laws.function_answers_are_vectors.Goals as goal

pub returns-clause-apart : goal.returns-clause-apart
returns-clause-apart c = apart_vector

pub returns-clause-mapped : goal.returns-clause-mapped
returns-clause-mapped c = mapped_vector

pub returns-clause-clamped : goal.returns-clause-clamped
returns-clause-clamped c = clamped_vector

pub returns-clause-replaced : goal.returns-clause-replaced
returns-clause-replaced c = λ name source expansion items. apart_vector (map (with_expansion name source expansion) items)

pub returns-clause-joined : goal.returns-clause-joined
returns-clause-joined c = λ name separator names items. apart_vector (map (with_joined name separator names) items)

pub returns-clause-quantiles : goal.returns-clause-quantiles
returns-clause-quantiles c = λ phi items.
    rising_answer (λ labels. histogram_value phi (buckets_in labels items)) (histograms items) (rising_fold [] (map histogram_labels (filter is_bucket items)) tt)
