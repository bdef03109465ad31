use Rattle.std.proofs.Common.{◌≡◌, ◌+◌, ◌≤◌, length}
use Rattle.pr_yaml.specs.Lines.{end_line}
use Rattle.pr_yaml.specs.Quoted.{quoted_below}
use Rattle.pr_yaml.proofs.yaml_scan.quoted.quoted_below.Given as goal

abbrev pub invariant-loop-next : goal.invariant-loop-next
invariant-loop-next l = record {
  few : l.empty ≤ l.last.line;
  value : quoted_below l.quote l.text.items l.joined l.empty (end_line l.p.line l.p.here l.p.below) (l.last.line + 1) l.last.below
      ≡ quoted_below l.quote l.fn.text.items l.fn.joined 0 (end_line l.p.line l.p.here l.p.below) (l.p.line + 1) l.p.below;
}

abbrev pub decreases-loop-next : goal.decreases-loop-next
decreases-loop-next l = length l.last.below
