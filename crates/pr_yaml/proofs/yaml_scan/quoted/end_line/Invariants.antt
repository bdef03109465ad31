use Rattle.std.proofs.Common.{◌≡◌, length}
use Rattle.pr_yaml.specs.Lines.{end_line}
use Rattle.pr_yaml.proofs.yaml_scan.quoted.end_line.Given as goal

abbrev pub invariant-loop-next : goal.invariant-loop-next
invariant-loop-next l = end_line l.last.line l.last.here l.last.below ≡ end_line l.p.line l.p.here l.p.below

abbrev pub decreases-loop-next : goal.decreases-loop-next
decreases-loop-next l = length l.last.below
