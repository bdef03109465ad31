use Rattle.std.proofs.Common.{[], map, filter}
use Rattle.pr_match.proofs.LabelsLabelOrder.{rising_fold}
use Rattle.spec_vectors.specs.Histogram.{buckets_in, histogram_labels, histogram_quantiles, histogram_value, histograms, is_bucket}
use Rattle.spec_vectors.proofs.FunctionAnswers.{rising_answer}
use Rattle.pr_fn.specs.private.Buckets.{valued_entries}
use Rattle.pr_fn.specs.private.Faults.{function_told}
use Rattle.pr_fn.proofs.BucketLemmas.{quantiles_are, told_vectors}
use Rattle.pr_fn.proofs.Mapping.{told_same}
use Rattle.pr_fn.proofs.histograms.histogram_quantile.Goals as goal

pub returns-clause-quantiles : goal.returns-clause-quantiles
returns-clause-quantiles c =
    let phi = c.args.phi in
    let items = c.args.vector.now in
    told_same c.quantiles.result (λ v. v.items) function_told (histogram_quantiles phi items) (valued_entries phi c.in_ok-parts.parts.entries) (quantiles_are phi items c.in_ok-parts.parts c.in_ok-parts.ensures) c.quantiles.ensures

pub returns-clause-vector : goal.returns-clause-vector
returns-clause-vector c =
    let phi = c.args.phi in
    let items = c.args.vector.now in
    told_vectors c.quantiles.result (λ v. v.items) function_told (histogram_quantiles phi items)
    (rising_answer (λ labels. histogram_value phi (buckets_in labels items)) (histograms items) (rising_fold [] (map histogram_labels (filter is_bucket items)) tt))
    (returns-clause-quantiles c)
