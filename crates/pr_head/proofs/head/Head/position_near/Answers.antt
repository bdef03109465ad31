use Rattle.std.proofs.Common.{◌≡◌, List, Some, ap, ◌∙◌, w64}
use Rattle.std.specs.Option.{option_map}
use Rattle.std.proofs.lemmas.Int.{to_z-of_z}
use Rattle.pr_labels.specs.declared.pair.Pair.{Pair}
use Rattle.pr_head.specs.private.Stored.{Stored, position_of}
use Rattle.pr_head.proofs.head.Head.position_near.Goals as goal

pub returns-in-Some-clause-known : goal.returns-in-Some-clause-known
returns-in-Some-clause-known c = λ e at.
    let time = to_z-of_z w64 c.args.time c.ranges.time in
    let place : c.position_near.result ≡ position_of c.in-Some.held.now c.args.time = c.position_near.ensures ∙ ap (position_of c.in-Some.held.now) time in
    let both : Some c.in-Some.held.now ≡ Some e.1 = c.in-Some.ensures ∙ ap (option_map (λ (x : List Pair × Stored). x.1)) at in
    let same : c.in-Some.held.now ≡ e.1 = cc in
    place ∙ ap (λ s. position_of s c.args.time) same
