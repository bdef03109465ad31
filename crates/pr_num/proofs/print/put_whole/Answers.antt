use Rattle.std.proofs.Common.{length, ap, arith}
use Rattle.std.proofs.lemmas.Fmt.{length-decimal-le_wide}
use Rattle.pr_num.proofs.print.put_whole.Goals as goal

pub returns-else-whole-clause-at : goal.returns-else-whole-clause-at
returns-else-whole-clause-at c =
    let digits = length-decimal-le_wide 20 c.args.whole (omega arith) (omega arith) (omega arith) in
    let bytes = ap (length) c.as_bytes-else-whole.ensures.value in
    let text = ap (length) c.format-else-whole.ensures.text in
    omega (arith, digits, bytes, text, c.put-else-whole.ensures.at)
