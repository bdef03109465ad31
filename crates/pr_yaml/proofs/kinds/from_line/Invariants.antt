use Rattle.std.proofs.Common.{◌≡◌, length}
use Rattle.pr_yaml.specs.Faults.{from_line}
use Rattle.pr_yaml.proofs.kinds.from_line.Given as goal

abbrev pub invariant-lines : goal.invariant-lines
invariant-lines l = from_line l.left l.rest ≡ from_line l.fn.lines l.fn.text

abbrev pub decreases-lines : goal.decreases-lines
decreases-lines l = length l.rest
