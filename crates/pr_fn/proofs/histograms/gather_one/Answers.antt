use Rattle.std.proofs.Common.{◌≡◌, Some, ap, sym, ◌∙◌}
use Rattle.pr_match.specs.pr_labels.Edits.{unlisted_labels}
use Rattle.spec_vectors.specs.Histogram.{bound_of, histogram_labels}
use Rattle.pr_fn.proofs.BucketLemmas.{added_bucket}
use Rattle.pr_fn.proofs.histograms.gather_one.Goals as goal

pub returns-in_ok-labels-in-Some : goal.returns-in_ok-labels-in-Some
returns-in_ok-labels-in-Some c = λ front h.
    let x = c.args.item.now in
    let m = c.args.parts.now in
    let bound = c.in-Some.bound in
    let found : bound_of x ≡ Some bound = sym (c.in-Some.ensures) in
    let labels : c.in_ok-labels-in-Some.labels ≡ histogram_labels x = c.in_ok-labels-in-Some.ensures ∙ ap (unlisted_labels x.labels) c.requires.names in
    added_bucket front x m c.add_bucket.new.parts c.add_bucket.result bound c.in_ok-labels-in-Some.labels found labels c.add_bucket.ensures.updates c.add_bucket.ensures.known c.add_bucket.ensures.ordered h
