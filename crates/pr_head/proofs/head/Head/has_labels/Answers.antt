use Rattle.std.proofs.Common.{sym}
use Rattle.pr_head.proofs.Simulation.{has_labels, has_none}
use Rattle.pr_head.proofs.head.Head.has_labels.Goals as goal

pub returns-in-Some : goal.returns-in-Some
returns-in-Some c = has_labels c.args.self.now c.args.series c.in-Some.found.now c.args.labels.now c.eq.result c.in-Some.ensures (sym c.eq.ensures)

pub returns-in-None : goal.returns-in-None
returns-in-None c = has_none c.args.self.now c.args.series c.args.labels.now c.in-None.ensures
