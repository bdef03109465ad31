use Rattle.pr_tmpl.proofs.FormatWays.{no_control_end}
use Rattle.pr_tmpl.proofs.quoted.sought_in.Goals as goal

pub returns-in_default-clause-read : goal.returns-in_default-clause-read
returns-in_default-clause-read c = no_control_end c.args.text.now c.args.wanted (rw c.in_default.is at c.in_ok-kind.ensures.read)
