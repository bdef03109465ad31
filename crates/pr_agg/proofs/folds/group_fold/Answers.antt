use Rattle.std.proofs.Common.{◌≡◌, subst, List, map, Result, Ok, Err, MatchResult}
use Rattle.pr_num.specs.declared.value.Num.{Num}
use Rattle.pr_num.specs.declared.value.TooWide.{TooWide}
use Rattle.pr_num.specs.Arithmetic.{too_wide}
use Rattle.pr_window.specs.pr_labels.declared.item.Item.{Item}
use Rattle.pr_agg.specs.declared.fault.AggFault.TheVariants as fault
use Rattle.indexmap.specs.IndexMap.{keys}
use Rattle.pr_window.specs.spec_vectors.Aggregation.{group_of}
use Rattle.pr_agg.proofs.Answered.{labels_rise}
use Rattle.pr_agg.proofs.Finishing.{parts_answer}
use Rattle.pr_agg.proofs.folds.group_fold.Goals as goal

pub returns-clause-aggregated : goal.returns-clause-aggregated
returns-clause-aggregated g c = λ f a.
    subst (λ (x : Result (List (Item Num)) TooWide). MatchResult c.finish_all.result (λ v. x ≡ Ok v.items) (λ e. e ≡ fault.TooWide → x ≡ Err too_wide))
    (parts_answer f g.M.Fold.lift g.M.Fold.combine c.args.by.now c.args.vector.now c.in_ok-parts.parts c.in_ok-parts.ensures)
    (c.finish_all.ensures.finished f a)

pub returns-clause-vector : goal.returns-clause-vector
returns-clause-vector g c =
    labels_rise (λ v. v.items) c.finish_all.result (map (group_of c.args.by.now) c.args.vector.now) (keys c.in_ok-parts.parts) c.in_ok-parts.ensures.known c.finish_all.ensures.labels
