use Rattle.std.proofs.Common.{◌≡◌}
use Rattle.pr_unit.specs.private.Slots.{empty_slots}
use Rattle.pr_unit.proofs.slots.empty_slots.Given as goal

-- so many
abbrev pub invariant-loop-slot : goal.invariant-loop-slot
invariant-loop-slot l = l.slots.items ≡ empty_slots l._slot
