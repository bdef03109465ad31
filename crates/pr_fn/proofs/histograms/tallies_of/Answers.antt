use Rattle.std.proofs.Common.{◌≡◌, suc, ◌+◌, ◌<◌, ◌^◌, ap, sym, ◌∙◌, subst, [], ◌∷◌, ◌++◌, take, length, arith, Option, Some}
use Rattle.std.proofs.lemmas.List.{length-take-le, take_more}
use Rattle.std.specs.Map.{keys_of}
use Rattle.std.specs.Option.{IfSome}
use Rattle.std.specs.BTreeMap.{Updates, get, keys}
use Rattle.pr_num.specs.declared.value.Num.{Num}
use Rattle.pr_num.specs.Order.{order_of}
use Rattle.pr_num.specs.Total.{Tally}
use Rattle.spec_vectors.specs.declared.bucket.Bucket.{Bucket}
use Rattle.pr_fn.specs.private.Buckets.{tally_with}
use Rattle.pr_fn.specs.private.Gathered.{with_key}
use Rattle.pr_fn.proofs.BucketLemmas.{room_for_one, tallies_more, tally_small}
use Rattle.pr_fn.proofs.Gathering.{keys_inserted}
use Rattle.pr_fn.proofs.histograms.tallies_of.Goals as goal

pub tally_with-total-requires : goal.tally_with-total-requires
tally_with-total-requires c =
    let buckets = c.args.buckets.now in
    let i = c.loop-bucket.bucket-index in
    let m = c.loop-bucket.tallies in
    let within : i < length buckets = omega arith in
    let long : length (take i buckets) ≡ i = length-take-le i buckets (omega arith) in
    let small : suc (length (take i buckets)) < 2 ^ 64 = omega arith in
    subst (λ (o : Option Tally). IfSome o (λ t. t.count + 1 < 2 ^ 64)) (sym (c.copied.ensures ∙ c.get.ensures.value))
    (room_for_one (get order_of m c.new-bound.result) (length (take i buckets)) small (tally_small (take i buckets) m c.new-bound.result c.loop-bucket.invariant))

pub loop-bucket-preserved : goal.loop-bucket-preserved
loop-bucket-preserved c =
    let buckets = c.args.buckets.now in
    let i = c.loop-bucket.bucket-index in
    let x = c.bucket-item.result in
    let m = c.loop-bucket.tallies in
    let n = c.insert.new.self in
    let w = c.tally_with-total.result in
    let within : i < length buckets = omega arith in
    let more : take (i + 1) buckets ≡ take i buckets ++ x ∷ [] = take_more buckets i x within ∙ ap (λ (y : Bucket). take i buckets ++ y ∷ []) (sym c.bucket-item.is) in
    let bound : c.new-bound.result ≡ x.bound = c.new-bound.ensures in
    let is : w ≡ tally_with (get order_of m x.bound) x.count =
    c.tally_with-total.ensures ∙ ap (λ (o : Option Tally). tally_with o x.count) (c.copied.ensures ∙ c.get.ensures.value ∙ ap (get order_of m) bound) in
    let known : keys n ≡ with_key order_of (keys m) c.new-bound.result = ap keys_of c.in_ok-insert.ensures.entries ∙ keys_inserted order_of m.entries c.new-bound.result w in
    rw more (tallies_more (take i buckets) x m n w is
    (subst (λ (k : Num). keys n ≡ with_key order_of (keys m) k) bound known)
    (subst (λ (k : Num). Updates order_of m n k (Some w)) bound c.in_ok-insert.ensures.updates)
    c.in_ok-insert.ensures.ordered c.loop-bucket.invariant)
