use Rattle.std.proofs.Common.{◌≡◌, ◌∷◌, rules, sym, ◌∙◌}
use Rattle.pr_slide.proofs.Successions.{not_rising}
use Rattle.pr_slide.proofs.successive.count_one_more.Goals as goal

pub returns-else-comes_behind-clause-goes_on : goal.returns-else-comes_behind-clause-goes_on
returns-else-comes_behind-clause-goes_on g c = λ counted rising.
    let split : c.args.spots.now ≡ c.in-Some.first.now ∷ c.in-Some.rest.now = search rules in
    not_rising c.in-Some.first.now c.in-Some.rest.now c.args.spot.now c.args.spots.now split (sym c.comes_behind.ensures ∙ c.if-comes_behind.false) rising
