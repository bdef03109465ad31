use Rattle.std.proofs.Common.{◌≡◌, Ok, Err, refl, ap, sym, ◌∙◌}
use Rattle.pr_num.specs.Arithmetic.{too_wide}
use Rattle.spec_vectors.specs.Histogram.{quantile_in}
use Rattle.pr_fn.proofs.BucketLemmas.{histogram_fault, histogram_is}
use Rattle.pr_fn.proofs.histograms.histogram_value.Goals as goal

pub returns-in-Err : goal.returns-in-Err
returns-in-Err c = λ lacks.
    let wide = c.in-Err.ensures lacks in
    (wide.0, histogram_fault c.args.phi.now c.args.buckets.now c.in_ok-tallies.tallies c.in_ok-tallies.ensures wide.1)

pub returns-in-Ok-quantile_in : goal.returns-in-Ok-quantile_in
returns-in-Ok-quantile_in c =
    let phi = c.args.phi.now in
    let value : quantile_in phi c.in-Ok.merged.items ≡ Ok c.in-Ok-quantile_in.value = ap (quantile_in phi) (sym c.deref-2.ensures.value) ∙ sym c.in-Ok-quantile_in.ensures in
    histogram_is phi c.args.buckets.now c.in_ok-tallies.tallies c.in-Ok.merged.items (Ok c.in-Ok-quantile_in.value) c.in_ok-tallies.ensures c.in-Ok.ensures value

pub returns : goal.returns
returns c = λ lacks.
    let phi = c.args.phi.now in
    let value : quantile_in phi c.in-Ok.merged.items ≡ Err too_wide = ap (quantile_in phi) (sym c.deref-2.ensures.value) ∙ sym c.in-Err-quantile_in.ensures in
    (refl, histogram_is phi c.args.buckets.now c.in_ok-tallies.tallies c.in-Ok.merged.items (Err too_wide) c.in_ok-tallies.ensures c.in-Ok.ensures value)
