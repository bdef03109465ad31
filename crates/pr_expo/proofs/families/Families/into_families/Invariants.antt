use Rattle.std.proofs.Common.{◌≡◌, ◌++◌, map}
use Rattle.pr_expo.specs.private.Keeping.{family_from}
use Rattle.pr_expo.proofs.families.Families.into_families.Given as goal

-- the entries that are left are still to be taken over
abbrev pub invariant-loop-name : goal.invariant-loop-name
invariant-loop-name l = l.families.items ++ map family_from l.name-iterator ≡ map family_from l.fn.self
