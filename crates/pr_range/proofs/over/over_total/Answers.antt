use Rattle.std.proofs.Common.{◌≡◌, length, refl, sym, subst}
use Rattle.std.specs.Option.{IfSome}
use Rattle.pr_window.proofs.Over.{total_counts}
use Rattle.pr_range.proofs.over.over_total.Goals as goal

pub answer_from_total-requires-clause-count : goal.answer_from_total-requires-clause-count
answer_from_total-requires-clause-count c = subst (λ o. IfSome o (λ t. t.count ≡ length c.args.spots.now)) (sym c.fold_by_next-total.ensures) (total_counts c.args.spots.now)

pub returns-clause-answer : goal.returns-clause-answer
returns-clause-answer c = c.answer_from_total.ensures.answer c.args.spots.now refl (sym c.fold_by_next-total.ensures)
