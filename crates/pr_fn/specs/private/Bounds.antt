-- Bounds are told apart and put in order as values are.
use Rattle.std.specs.Prelude.{Bool}
use Rattle.std.specs.Cmp.{IsEquivalence, IsPartialEquivalence, IsPartialOrder, IsTotalOrder, eq_by_cmp_equiv, partial_equiv_from_equiv, partial_order_from_total}
use Rattle.std.specs.Ordering.{as_partial_cmp, eq_by_cmp}
use Rattle.pr_num.specs.declared.value.Num.{Num}
use Rattle.pr_num.specs.Order.{order_of}
use Rattle.pr_num.proofs.Algebra.{order_is_total}

abbrev pub same_bound : Num → Num → Bool
same_bound a b = eq_by_cmp order_of a b

pub bounds_total : IsTotalOrder order_of
bounds_total = order_is_total

pub bounds_equal : IsEquivalence same_bound
bounds_equal = eq_by_cmp_equiv order_is_total

pub bounds_alike : IsPartialEquivalence same_bound
bounds_alike = partial_equiv_from_equiv bounds_equal

pub bounds_ordered : IsPartialOrder same_bound (as_partial_cmp order_of)
bounds_ordered = partial_order_from_total order_is_total
