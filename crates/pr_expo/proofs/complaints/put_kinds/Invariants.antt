use Rattle.std.proofs.Common.{◌≡◌, ◌++◌, drop, map}
use Rattle.pr_expo.specs.Lint.{problem}
use Rattle.pr_expo.proofs.complaints.put_kinds.Given as goal

-- the kinds left are still to be put
abbrev pub invariant-loop-kind : goal.invariant-loop-kind
invariant-loop-kind l = l.problems.items ++ map (problem l.family.name) (drop l.kind-index l.kinds) ≡ l.fn.problems.items ++ map (problem l.family.name) l.kinds
