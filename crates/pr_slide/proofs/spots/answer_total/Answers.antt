use Rattle.std.proofs.Common.{◌≡◌, length, sym, subst}
use Rattle.std.specs.Option.{IfSome}
use Rattle.pr_range.proofs.WindowOver.{total_counts}
use Rattle.pr_slide.proofs.spots.answer_total.Goals as goal

pub answer_from_total-requires-clause-count : goal.answer_from_total-requires-clause-count
answer_from_total-requires-clause-count g c =
    subst (λ n. IfSome c.summary.result (λ t. t.count ≡ n)) (sym c.len.ensures)
    (subst (λ o. IfSome o (λ t. t.count ≡ length c.args.spots.now.items)) (sym c.summary.ensures.value) (total_counts c.args.spots.now.items))

pub returns-then-is_of_total-clause-answer : goal.returns-then-is_of_total-clause-answer
returns-then-is_of_total-clause-answer g c = λ within. c.answer_from_total.ensures.answer c.args.spots.now.items (sym c.len.ensures) (sym c.summary.ensures.value)
