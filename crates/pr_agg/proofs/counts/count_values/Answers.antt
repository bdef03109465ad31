use Rattle.std.proofs.Common.{IfOk, List, ◌≡◌, subst}
use Rattle.pr_num.specs.declared.value.Num.{Num}
use Rattle.pr_window.specs.pr_labels.declared.item.Item.{Item}
use Rattle.pr_window.specs.spec_vectors.Aggregation.{counted}
use Rattle.pr_window.proofs.VectorsAggregation.{counted_is_vector}
use Rattle.pr_agg.proofs.Answered.{still_vector}
use Rattle.pr_agg.proofs.Counting.{counts_are}
use Rattle.pr_agg.proofs.counts.count_values.Goals as goal

pub returns-clause-counted : goal.returns-clause-counted
returns-clause-counted c =
    subst (λ (xs : List (Item Num)). IfOk c.numbered.result (λ v. v.items ≡ xs)) (counts_are c.args.label.now c.args.by.now c.args.vector.now c.in_ok-counts.counts c.in_ok-counts.ensures) c.numbered.ensures

pub returns-clause-vector : goal.returns-clause-vector
returns-clause-vector c =
    still_vector (λ v. v.items) c.numbered.result (counted c.args.label.now c.args.by.now c.args.vector.now) (counted_is_vector c.args.label.now c.args.by.now c.args.vector.now)
    (subst (λ (xs : List (Item Num)). IfOk c.numbered.result (λ v. v.items ≡ xs)) (counts_are c.args.label.now c.args.by.now c.args.vector.now c.in_ok-counts.counts c.in_ok-counts.ensures) c.numbered.ensures)
