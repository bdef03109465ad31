use Rattle.std.proofs.Common.{rules, ap, subst, List}
use Rattle.std.proofs.lemmas.List.Sorted.{answers_always, ranks_by}
use Rattle.std.specs.List.Sorted.{IsPermutation}
use Rattle.std.specs.Ordering.{is_lt}
use Rattle.pr_num.specs.declared.value.Num.{Num}
use Rattle.pr_num.specs.Order.{order_of}
use Rattle.pr_num.proofs.Algebra.{order_is_total}
use Rattle.pr_window.proofs.VectorsValueOrder.{sorted_in_order}
use Rattle.pr_agg.proofs.lists.sorted.Goals as goal

pub returns-clause-values : goal.returns-clause-values
returns-clause-values c =
    sorted_in_order c.args.values c.sort_by.new.self.items (subst (λ (xs : List Num). IsPermutation xs c.sort_by.new.self.items) c.into_vec-sorted.ensures c.in_ok-sort_by.ensures.permutation)
    (c.in_ok-sort_by.ensures.sorted (λ x y. is_lt (order_of x y)) (ranks_by order_is_total (λ x. x)) (answers_always _ _ _ (λ f a r f' k. ap is_lt (search rules))))

pub returns-clause-order : goal.returns-clause-order
returns-clause-order c =
    c.in_ok-sort_by.ensures.sorted (λ x y. is_lt (order_of x y)) (ranks_by order_is_total (λ x. x)) (answers_always _ _ _ (λ f a r f' k. ap is_lt (search rules)))
