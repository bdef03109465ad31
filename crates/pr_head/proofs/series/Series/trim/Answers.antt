use Rattle.std.proofs.Common.{◌+◌, drop, ap, subst, ◌∙◌, w64}
use Rattle.std.proofs.lemmas.Int.{to_z-of_z}
use Rattle.std.specs.List.Sorted.{IsNonDecreasingBy}
use Rattle.pr_head.specs.private.Stored.{Stored, position_of, stored}
use Rattle.pr_head.proofs.Trimming.{is_trimmed}
use Rattle.pr_head.proofs.series.Series.trim.Goals as goal

pub returns-clause-rising : goal.returns-clause-rising
returns-clause-rising c = subst (λ (s : Stored). IsNonDecreasingBy (λ x. x.time) s.held) c.self.view_is c.self.invariant.rising

pub returns-clause-trimmed : goal.returns-clause-trimmed
returns-clause-trimmed c =
    let time = to_z-of_z w64 c.args.before c.ranges.before in
    let place = c.until-gone.ensures.place ∙ ap (position_of c.args.self.now) time in
    (λ i. stored ((c.self.view_is i).first + c.until-gone.result) (c.drop_first.ensures i) (c.self.view_is i).last)
    ∙ (λ i. stored (c.args.self.now.first + c.until-gone.result) (drop c.until-gone.result (c.self.view_is i).held) c.args.self.now.last)
    ∙ is_trimmed c.args.self.now c.args.before c.until-gone.result (returns-clause-rising c) place c.until-gone.ensures.held
