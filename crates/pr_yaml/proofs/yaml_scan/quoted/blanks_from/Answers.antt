use Rattle.std.proofs.Common.{sym, arith}
use Rattle.pr_yaml.proofs.QuotedLines.{found_end, found_whole}
use Rattle.pr_yaml.proofs.yaml_scan.quoted.blanks_from.Goals as goal

pub returns-then-end-line-clause-over : goal.returns-then-end-line-clause-over
returns-then-end-line-clause-over c =
    sym (found_end c.args.line.now c.args.at c.blanks_len.result c.requires.within c.blanks_len.ensures.value (omega (arith, c.if-end-line.true)) c.args.at (omega arith))

pub returns-then-end-line-clause-solid : goal.returns-then-end-line-clause-solid
returns-then-end-line-clause-solid c = λ k h.
    found_end c.args.line.now c.args.at c.blanks_len.result c.requires.within c.blanks_len.ensures.value (omega (arith, c.if-end-line.true)) k (omega (arith, h))

pub returns-else-end-line-clause-over : goal.returns-else-end-line-clause-over
returns-else-end-line-clause-over c = sym (found_whole c.args.line.now c.args.at c.blanks_len.result c.requires.within c.blanks_len.ensures.value (omega (arith, c.if-end-line.false)))
