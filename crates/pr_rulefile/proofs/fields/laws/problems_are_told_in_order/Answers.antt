use Rattle.pr_rulefile.proofs.Orders.{rises, stable, only}
use Rattle.pr_rulefile.proofs.fields.laws.problems_are_told_in_order.Goals as goal

pub returns-clause-rises : goal.returns-clause-rises
returns-clause-rises c = rises

pub returns-clause-stable : goal.returns-clause-stable
returns-clause-stable c = stable

pub returns-clause-only : goal.returns-clause-only
returns-clause-only c = only
