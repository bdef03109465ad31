use Rattle.std.proofs.Common.{◌≡◌, List, ◌∷◌, Result, Ok, ap, sym, ◌∙◌}
use Rattle.pr_num.specs.declared.value.Num.{Num}
use Rattle.pr_num.specs.declared.value.TooWide.{TooWide}
use Rattle.pr_match.specs.pr_labels.declared.pair.Pair.{Pair}
use Rattle.pr_match.specs.pr_labels.declared.item.Item.{Item}
use Rattle.spec_vectors.specs.declared.bucket.Bucket.{Bucket}
use Rattle.spec_vectors.specs.Vectors.{element}
use Rattle.spec_vectors.specs.Histogram.{histogram_value, next_element}
use Rattle.pr_fn.specs.private.Buckets.{before_elements, valued_entries}
use Rattle.pr_fn.proofs.BucketLemmas.{before_next_element}
use Rattle.pr_fn.proofs.histograms.quantiles.Goals as goal

pub loop-labels-preserved : goal.loop-labels-preserved
loop-labels-preserved c =
    let phi = c.args.phi.now in
    let front = c.loop-labels.items.items in
    let labels = c.in-Some.labels in
    let value = c.in-Ok.value in
    let rest = c.next.new.self in
    let split : c.loop-labels.labels-iterator ≡ (labels, c.in-Some.buckets) ∷ rest = c.in-Some.ensures.steps in
    let given : histogram_value phi c.in-Some.buckets ≡ Ok value = ap (histogram_value phi) (sym c.as_slice.ensures) ∙ c.in-Ok.ensures in
    ap (λ (xs : List (Item Num)). before_elements xs (valued_entries phi rest)) c.in_ok-push_element-in-Ok.ensures
    ∙ before_next_element front (element labels value) (valued_entries phi rest)
    ∙ ap (λ (r : Result Num TooWide). before_elements front (next_element labels r (valued_entries phi rest))) (sym given)
    ∙ ap (λ (es : List (List Pair × List Bucket)). before_elements front (valued_entries phi es)) (sym split)
    ∙ c.loop-labels.invariant
