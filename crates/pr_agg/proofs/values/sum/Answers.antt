use Rattle.std.proofs.Common.{rules, ◌≡◌, subst, List, Result, Ok, Err, MatchResult}
use Rattle.pr_num.specs.declared.value.Num.{Num}
use Rattle.pr_num.specs.declared.value.TooWide.{TooWide}
use Rattle.pr_num.specs.Arithmetic.{too_wide}
use Rattle.pr_num.specs.Total.{joined, one_value}
use Rattle.pr_window.specs.pr_labels.declared.item.Item.{Item}
use Rattle.pr_window.specs.spec_vectors.Aggregation.{sum_of_values}
use Rattle.pr_window.proofs.VectorsAggregation.{aggregated_alike}
use Rattle.pr_agg.specs.declared.fault.AggFault.TheVariants as fault
use Rattle.pr_agg.specs.private.Parts.{fold_and_finish}
use Rattle.pr_agg.specs.private.Finished.{total_finished}
use Rattle.pr_agg.proofs.Folded.{sum_folded}
use Rattle.pr_agg.proofs.values.sum.Goals as goal

pub returns-clause-aggregated : goal.returns-clause-aggregated
returns-clause-aggregated c =
    subst (λ (x : Result (List (Item Num)) TooWide). MatchResult c.group_fold.result (λ v. x ≡ Ok v.items) (λ e. e ≡ fault.TooWide → x ≡ Err too_wide))
    (aggregated_alike (fold_and_finish one_value joined total_finished) sum_of_values sum_folded c.args.by.now c.args.vector.now)
    (c.group_fold.ensures.aggregated total_finished (record { gives = λ a r k. search rules }))
