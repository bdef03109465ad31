use Rattle.std.proofs.Common.{arith}
use Rattle.pr_tmpl.proofs.Tens.{product_small}
use Rattle.pr_tmpl.proofs.humanize.digits.four_digits.Goals as goal

pub overflow_mul-result : goal.overflow_mul-result
overflow_mul-result c = omega (arith, product_small c.args.number c.power_of_ten-power.result c.half_of.result (omega arith) c.power_of_ten-power.ensures.small c.half_of.ensures.small)
