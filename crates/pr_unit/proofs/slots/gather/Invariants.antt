use Rattle.std.proofs.Common.{◌≡◌, ◌++◌, List}
use Rattle.std.specs.List.{flat_map}
use Rattle.spec_tests.specs.declared.failure.Failure.{Failure}
use Rattle.pr_unit.proofs.slots.gather.Given as goal

-- those of the slots so far, and those to come
abbrev pub invariant-loop-list : goal.invariant-loop-list
invariant-loop-list l = l.failures.items ++ flat_map (λ (list : List Failure). list) l.list-iterator.rest.items ≡ l.initial.failures.items ++ flat_map (λ (list : List Failure). list) l.fn.slots.items
