use Rattle.std.proofs.Common.{◌≤◌, length, refl, sym, subst}
use Rattle.std.specs.Option.{IfSome}
use Rattle.pr_window.specs.private.Neighbours.{weight_of}
use Rattle.pr_window.proofs.Over.{neighbours_light}
use Rattle.pr_range.proofs.over.over_neighbours.Goals as goal

pub answer_from_neighbours-requires-clause-light : goal.answer_from_neighbours-requires-clause-light
answer_from_neighbours-requires-clause-light c = subst (λ o. IfSome o (λ s. weight_of s ≤ length c.args.spots.now)) (sym c.fold_by_next-kept.ensures) (neighbours_light c.args.spots.now)

pub returns-clause-answer : goal.returns-clause-answer
returns-clause-answer c = λ within. c.answer_from_neighbours.ensures.answer c.args.spots.now within refl (sym c.fold_by_next-kept.ensures)
