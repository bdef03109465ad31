use Rattle.std.proofs.Common.{◌≡◌, length}
use Rattle.pr_yaml.specs.Block.{indentation}
use Rattle.pr_yaml.proofs.yaml_scan.block.indentation.Given as goal

abbrev pub invariant-loop-next : goal.invariant-loop-next
invariant-loop-next l = indentation l.inside l.parent l.last.below ≡ indentation l.inside l.parent l.p.below

abbrev pub decreases-loop-next : goal.decreases-loop-next
decreases-loop-next l = length l.last.below
