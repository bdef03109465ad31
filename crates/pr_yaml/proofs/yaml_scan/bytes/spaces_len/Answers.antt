use Rattle.std.proofs.Common.{◌<◌, sym, arith, length}
use Rattle.std.proofs.lemmas.List.Sums.{prefix_len_is}
use Rattle.std.proofs.lemmas.Bool.Decides.{nat_tests}
use Rattle.pr_yaml.specs.Bytes.{is_space}
use Rattle.pr_yaml.specs.Bytes.{spaces_len}
use Rattle.pr_yaml.proofs.yaml_scan.bytes.spaces_len.Goals as goal

pub returns-else-line-at-eq32-clause-value : goal.returns-else-line-at-eq32-clause-value
unfolding spaces_len
returns-else-line-at-eq32-clause-value c =
    sym (prefix_len_is is_space c.args.line.now c.loop-at.at 0 (omega arith) c.loop-at.invariant.1 (λ _. grind (arith, nat_tests)))

pub returns-after-loop-at-clause-value : goal.returns-after-loop-at-clause-value
unfolding spaces_len
returns-after-loop-at-clause-value c =
    sym (prefix_len_is is_space c.args.line.now c.loop-at.at 0 (omega arith) c.loop-at.invariant.1 (λ (lt : c.loop-at.at < length c.args.line.now). absurd (omega arith)))
