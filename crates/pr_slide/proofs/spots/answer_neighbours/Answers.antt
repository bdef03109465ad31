use Rattle.std.proofs.Common.{◌≤◌, length, Some, sym, subst}
use Rattle.std.specs.Option.{IfSome}
use Rattle.pr_range.specs.pr_window.private.Neighbours.{weight_of}
use Rattle.pr_range.proofs.WindowOver.{neighbours_light}
use Rattle.pr_slide.proofs.spots.answer_neighbours.Goals as goal

pub answer_from_neighbours-requires-clause-light : goal.answer_from_neighbours-requires-clause-light
answer_from_neighbours-requires-clause-light g c =
    subst (λ n. IfSome (Some c.in-Some.summary) (λ s. weight_of s ≤ n)) (sym c.len.ensures)
    (subst (λ o. IfSome o (λ s. weight_of s ≤ length c.args.spots.now.items)) c.in-Some.ensures.value (neighbours_light c.args.spots.now.items))

pub returns-in-Some-clause-answer : goal.returns-in-Some-clause-answer
returns-in-Some-clause-answer g c = λ within. c.answer_from_neighbours.ensures.answer c.args.spots.now.items within (sym c.len.ensures) c.in-Some.ensures.value
