use Rattle.std.proofs.Common.{◌≡◌, ◌+◌, ◌≤◌, ◌^◌, length}
use Rattle.pr_yaml.specs.Block.{block_lines, block_below}
use Rattle.pr_yaml.proofs.yaml_scan.block.block_below.Given as goal

abbrev pub invariant-loop-next : goal.invariant-loop-next
invariant-loop-next l = record {
  few : l.empty ≤ l.last.line;
  small : l.empty ≤ 2 ^ 32;
  value : block_lines l.style l.chomp l.inside l.indent l.text.items l.earlier l.empty (l.last.line + 1) l.last.below ≡ block_below l.style l.chomp l.inside l.fn.parent l.p;
}

abbrev pub decreases-loop-next : goal.decreases-loop-next
decreases-loop-next l = length l.last.below
