use Rattle.std.proofs.Common.{◌≡◌, ◌++◌, length, filter, not, refl, arith}
use Rattle.pr_unit.specs.private.Kept.{name_of}
use Rattle.pr_unit.specs.private.Ordered.{is_so_named}
use Rattle.pr_unit.proofs.Lists.{all_joined, none_of}
use Rattle.pr_unit.proofs.order.part.Goals as goal

pub returns-clause-named : goal.returns-clause-named
returns-clause-named g c =
    let rest = c.loop-group.group-iterator.rest.items in
    let some : length rest ≡ 0 = omega (arith, c.loop-group.group-iterator.rest.ok.0, c.in-None.ensures.steps.0) in
    all_joined (filter (is_so_named name_of c.args.name.now)) c.loop-group.named.items (c.args.named.now.items ++ filter (is_so_named name_of c.args.name.now) c.args.groups.items) rest refl (none_of rest some) c.loop-group.invariant.named

pub returns-clause-others : goal.returns-clause-others
returns-clause-others g c =
    let rest = c.loop-group.group-iterator.rest.items in
    let some : length rest ≡ 0 = omega (arith, c.loop-group.group-iterator.rest.ok.0, c.in-None.ensures.steps.0) in
    all_joined (filter (λ k. not (is_so_named name_of c.args.name.now k))) c.loop-group.others.items (filter (λ k. not (is_so_named name_of c.args.name.now k)) c.args.groups.items) rest refl (none_of rest some) c.loop-group.invariant.others
