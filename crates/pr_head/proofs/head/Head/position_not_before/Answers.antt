use Rattle.std.proofs.Common.{◌≡◌, List, Some, max, ap, ◌∙◌, w64}
use Rattle.std.specs.Option.{option_map}
use Rattle.std.proofs.lemmas.Int.{to_z-of_z}
use Rattle.pr_labels.specs.declared.pair.Pair.{Pair}
use Rattle.pr_head.specs.private.Stored.{Stored, position_of}
use Rattle.pr_head.proofs.head.Head.position_not_before.Goals as goal

pub returns-in-Some-clause-known : goal.returns-in-Some-clause-known
returns-in-Some-clause-known c = λ e at.
    let time = to_z-of_z w64 c.args.time c.ranges.time in
    let found : c.position_not_before.result ≡ max (position_of c.in-Some.held.now c.args.time) c.args.place = c.position_not_before.ensures ∙ ap (λ t. max (position_of c.in-Some.held.now t) c.args.place) time in
    let both : Some c.in-Some.held.now ≡ Some e.1 = c.in-Some.ensures ∙ ap (option_map (λ (x : List Pair × Stored). x.1)) at in
    let same : c.in-Some.held.now ≡ e.1 = cc in
    found ∙ ap (λ s. max (position_of s c.args.time) c.args.place) same
