use Rattle.std.proofs.Common.{arith}
use Rattle.pr_fn.proofs.CivilDates.{same_date}
use Rattle.pr_fn.proofs.instants.date_after.Goals as goal

pub returns : goal.returns
returns c = same_date c.args.days c.numbered.result (omega (arith, c.requires)) c.numbered.ensures
