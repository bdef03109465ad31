use Rattle.std.proofs.Common.{◌<◌, sym, arith, length}
use Rattle.std.proofs.lemmas.List.Sums.{prefix_len_is}
use Rattle.pr_words.specs.Bytes.{is_blank}
use Rattle.pr_yaml.specs.Bytes.{blanks_len}
use Rattle.pr_yaml.proofs.yaml_scan.bytes.blanks_len.Goals as goal

pub returns-else-is_blank-clause-value : goal.returns-else-is_blank-clause-value
unfolding blanks_len
returns-else-is_blank-clause-value c =
    sym (prefix_len_is is_blank c.args.line.now c.loop-at.at 0 (omega arith) c.loop-at.invariant.1 (λ _. sym c.if-is_blank.ensures))

pub returns-after-loop-at-clause-value : goal.returns-after-loop-at-clause-value
unfolding blanks_len
returns-after-loop-at-clause-value c =
    sym (prefix_len_is is_blank c.args.line.now c.loop-at.at 0 (omega arith) c.loop-at.invariant.1 (λ (lt : c.loop-at.at < length c.args.line.now). absurd (omega arith)))
