use Rattle.std.proofs.Common.{arith}
use Rattle.pr_tmpl.proofs.Tens.{ten_small, ten_pos}
use Rattle.pr_tmpl.proofs.humanize.digits.power_of_ten.Goals as goal

pub pow-requires : goal.pow-requires
pow-requires c = omega (arith, ten_small c.args.places c.requires)

pub returns-clause-small : goal.returns-clause-small
returns-clause-small c = omega (arith, ten_small c.args.places c.requires, c.pow.ensures)

pub returns-clause-some : goal.returns-clause-some
returns-clause-some c = omega (arith, ten_pos c.args.places, c.pow.ensures)
