use Rattle.std.proofs.Common.{◌≡◌, ◌++◌, map}
use Rattle.std.specs.Rc.{rc_value}
use Rattle.pr_unit.proofs.rules.shared.Given as goal

-- the definitions so far, and those that are left
abbrev pub invariant-loop-def : goal.invariant-loop-def
invariant-loop-def l = map rc_value l.shared.items ++ l.def-iterator.rest.items ≡ l.fn.defs.items
