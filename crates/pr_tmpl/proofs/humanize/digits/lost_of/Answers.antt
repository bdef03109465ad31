use Rattle.std.proofs.Common.{length, ap, arith}
use Rattle.std.proofs.lemmas.Fmt.{length-decimal-le_wide}
use Rattle.pr_tmpl.proofs.humanize.digits.lost_of.Goals as goal

pub returns-clause-few : goal.returns-clause-few
returns-clause-few c =
    let digits = length-decimal-le_wide 29 c.args.number (omega arith) (omega arith) (omega arith) in
    let text = ap (length) c.format.ensures.text in
    omega (arith, digits, text, c.saturating_sub.ensures)
