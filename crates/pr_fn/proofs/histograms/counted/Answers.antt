use Rattle.std.proofs.Common.{◌≡◌, List, [], ◌∷◌, ◌++◌, Result, ap, sym, ◌∙◌}
use Rattle.pr_num.specs.declared.value.Num.{Num}
use Rattle.pr_num.specs.declared.value.TooWide.{TooWide}
use Rattle.pr_num.specs.Total.{Tally}
use Rattle.spec_vectors.specs.declared.bucket.Bucket.{Bucket}
use Rattle.spec_vectors.specs.Histogram.{next_bucket}
use Rattle.pr_fn.specs.private.Buckets.{before_buckets, counted_entries}
use Rattle.pr_fn.proofs.BucketLemmas.{before_next_bucket}
use Rattle.pr_fn.proofs.histograms.counted.Goals as goal

pub loop-bound-preserved : goal.loop-bound-preserved
loop-bound-preserved c =
    let front = c.loop-bound.buckets.items in
    let bound = c.in-Some.bound in
    let count = c.in-Ok.count in
    let rest = c.next.new.self in
    let split : c.loop-bound.bound-iterator ≡ (bound, c.in-Some.total) ∷ rest = c.in-Some.ensures.steps in
    ap (λ (bs : List Bucket). before_buckets bs (counted_entries rest)) c.in_ok-push_bucket-in-Ok.ensures
    ∙ ap (λ (b : Num). before_buckets (front ++ record { bound = b; count = count } ∷ []) (counted_entries rest)) c.value-in-Ok.ensures
    ∙ before_next_bucket front bound count (counted_entries rest)
    ∙ ap (λ (r : Result Num TooWide). before_buckets front (next_bucket bound r (counted_entries rest))) c.in-Ok.ensures
    ∙ ap (λ (es : List (Num × Tally)). before_buckets front (counted_entries es)) (sym split)
    ∙ c.loop-bound.invariant
