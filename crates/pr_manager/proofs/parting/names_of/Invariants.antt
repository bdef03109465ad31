use Rattle.std.proofs.Common.{◌≡◌, ◌||◌, length}
use Rattle.std.specs.Prelude.{is_some}
use Rattle.pr_manager.specs.declared.naming.GroupName.{GroupName}
use Rattle.pr_manager.specs.private.Naming.{is_among, names_of, value_of}
use Rattle.pr_manager.proofs.parting.names_of.Given as goal

abbrev pub invariant-naming : goal.invariant-naming
invariant-naming g l = (q : GroupName) → (is_some (value_of l.names q) || is_among q (names_of l.rest)) ≡ is_among q (names_of l.groups)

abbrev pub decreases-naming : goal.decreases-naming
decreases-naming g l = length l.rest
