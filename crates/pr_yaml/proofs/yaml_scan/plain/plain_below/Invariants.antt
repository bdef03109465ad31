use Rattle.std.proofs.Common.{◌≡◌, ◌+◌, ◌≤◌, length}
use Rattle.pr_yaml.specs.Plain.{plain_below}
use Rattle.pr_yaml.proofs.yaml_scan.plain.plain_below.Given as goal

abbrev pub invariant-loop-next : goal.invariant-loop-next
invariant-loop-next l = record {
  few : l.empty ≤ l.last.line;
  value : plain_below l.inside l.parent l.text.items l.end l.empty (l.last.line + 1) l.last.below
      ≡ plain_below l.inside l.parent l.fn.text.items l.p 0 (l.p.line + 1) l.p.below;
}

abbrev pub decreases-loop-next : goal.decreases-loop-next
decreases-loop-next l = length l.last.below
