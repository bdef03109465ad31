use Rattle.std.proofs.Common.{rules, ap, subst, List, ◌∷◌}
use Rattle.std.proofs.lemmas.List.Sorted.{answers_always, ranks_by}
use Rattle.std.specs.List.Sorted.{IsPermutation}
use Rattle.std.specs.Ordering.{is_lt}
use Rattle.spec_vectors.specs.pr_num.declared.value.Num.{Num}
use Rattle.spec_vectors.specs.pr_num.Order.{order_of}
use Rattle.spec_vectors.proofs.NumAlgebra.{order_is_total}
use Rattle.spec_vectors.specs.Spots.{numbers_of}
use Rattle.spec_vectors.proofs.ValueOrder.{sorted_in_order}
use Rattle.pr_range.proofs.values.sorted.Goals as goal

pub returns-clause-values : goal.returns-clause-values
returns-clause-values c =
    sorted_in_order (numbers_of (c.args.first.now ∷ c.args.rest.now)) c.sort_by.new.self.items (subst (λ (xs : List Num). IsPermutation xs c.sort_by.new.self.items) c.in_ok-sorted.ensures c.in_ok-sort_by.ensures.permutation)
    (c.in_ok-sort_by.ensures.sorted (λ x y. is_lt (order_of x y)) (ranks_by order_is_total (λ x. x)) (answers_always _ _ _ (λ f a r f' k. ap is_lt (search rules))))

pub returns-clause-order : goal.returns-clause-order
returns-clause-order c =
    c.in_ok-sort_by.ensures.sorted (λ x y. is_lt (order_of x y)) (ranks_by order_is_total (λ x. x)) (answers_always _ _ _ (λ f a r f' k. ap is_lt (search rules)))
