use Rattle.std.proofs.Common.{rules, ◌∙◌, w64}
use mir.Val.{SFits}
use Rattle.std.proofs.lemmas.Int.{to_z-of_z}
use Rattle.pr_group.proofs.restoring.newest_of.Goals as goal

pub returns-in-None-clause-found : goal.returns-in-None-clause-found
returns-in-None-clause-found g c = λ history over.
    let small : SFits w64 c.moment-time.result = search rules in
    c.in-None.ensures.found history c.args.now (to_z-of_z w64 c.moment-time.result small ∙ c.moment-time.ensures) over

pub returns-in-Some-clause-found : goal.returns-in-Some-clause-found
returns-in-Some-clause-found g c = λ history over.
    let small : SFits w64 c.moment-time.result = search rules in
    c.of_last_hour.ensures.value ∙ c.in-Some.ensures.found history c.args.now (to_z-of_z w64 c.moment-time.result small ∙ c.moment-time.ensures) over
