use Rattle.std.proofs.Common.{◌≡◌, ◌++◌, length, refl, arith}
use Rattle.pr_unit.proofs.Lists.{all_joined, none_of}
use Rattle.pr_unit.proofs.order.put_all.Goals as goal

pub returns : goal.returns
returns g c =
    let rest = c.loop-group.group-iterator.rest.items in
    let some : length rest ≡ 0 = omega (arith, c.loop-group.group-iterator.rest.ok.0, c.in-None.ensures.steps.0) in
    all_joined (λ xs. xs) c.loop-group.named.items (c.args.named.now.items ++ c.args.groups.items) rest refl (none_of rest some) c.loop-group.invariant
