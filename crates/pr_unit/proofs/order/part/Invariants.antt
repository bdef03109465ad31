use Rattle.std.proofs.Common.{◌≡◌, ◌++◌, filter, not}
use Rattle.pr_unit.specs.private.Kept.{name_of}
use Rattle.pr_unit.specs.private.Ordered.{is_so_named}
use Rattle.pr_unit.proofs.order.part.Given as goal

-- the groups so far, and those to come
abbrev pub invariant-loop-group : goal.invariant-loop-group
invariant-loop-group g l = record {
  named : l.named.items ++ filter (is_so_named name_of l.name) l.group-iterator.rest.items ≡ l.initial.named.items ++ filter (is_so_named name_of l.name) l.fn.groups.items;
  others : l.others.items ++ filter (λ k. not (is_so_named name_of l.name k)) l.group-iterator.rest.items ≡ filter (λ k. not (is_so_named name_of l.name k)) l.fn.groups.items;
}
