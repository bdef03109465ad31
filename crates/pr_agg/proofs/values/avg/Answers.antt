use Rattle.std.proofs.Common.{rules, Ok, ◌≡◌}
use Rattle.pr_window.specs.spec_vectors.Aggregation.{of_groups, always, mean_of_values}
use Rattle.pr_window.specs.spec_vectors.private.Laws.{IsVector}
use Rattle.pr_num.specs.Total.{joined, one_value}
use Rattle.pr_agg.specs.private.Finished.{mean_finished}
use Rattle.pr_agg.specs.private.Parts.{fold_and_finish}
use Rattle.pr_agg.proofs.Answered.{always_answered, carried}
use Rattle.pr_agg.proofs.Folded.{mean_folded}
use Rattle.pr_agg.proofs.values.avg.Goals as goal

pub never_wide-requires : goal.never_wide-requires
never_wide-requires c =
    (always_answered (λ v. v.items) c.group_fold-answer.result mean_of_values (fold_and_finish one_value joined mean_finished) c.args.by.now c.args.vector.now mean_folded
    (c.group_fold-answer.ensures.aggregated mean_finished (record { gives = λ a r k. search rules }))).narrow

pub returns-clause-aggregated : goal.returns-clause-aggregated
returns-clause-aggregated c =
    carried (λ v. v.items) c.never_wide.result c.group_fold-answer.result (λ xs. of_groups (always mean_of_values) c.args.by.now c.args.vector.now ≡ Ok xs) c.never_wide.ensures
    (always_answered (λ v. v.items) c.group_fold-answer.result mean_of_values (fold_and_finish one_value joined mean_finished) c.args.by.now c.args.vector.now mean_folded
    (c.group_fold-answer.ensures.aggregated mean_finished (record { gives = λ a r k. search rules }))).value

pub returns-clause-vector : goal.returns-clause-vector
returns-clause-vector c = carried (λ v. v.items) c.never_wide.result c.group_fold-answer.result (λ xs. IsVector xs) c.never_wide.ensures c.group_fold-answer.ensures.vector
