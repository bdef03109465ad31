use Rattle.std.proofs.Common.{◌<◌, sym, arith, length}
use Rattle.std.proofs.lemmas.List.Sums.{prefix_len_is}
use Rattle.pr_ast.specs.Bytes.{is_of}
use Rattle.pr_ast.proofs.lex.part.front_len.Goals as goal

pub returns-else-is_of-clause-value : goal.returns-else-is_of-clause-value
returns-else-is_of-clause-value c =
    sym (prefix_len_is (is_of c.args.class) c.args.text.now c.loop-at.at 0 (omega arith) c.loop-at.invariant.1 (λ _. sym c.if-is_of.ensures))

pub returns-after-loop-at-clause-value : goal.returns-after-loop-at-clause-value
returns-after-loop-at-clause-value c =
    sym (prefix_len_is (is_of c.args.class) c.args.text.now c.loop-at.at 0 (omega arith) c.loop-at.invariant.1 (λ (lt : c.loop-at.at < length c.args.text.now). absurd (omega arith)))
