use Rattle.pr_rule.proofs.Stepping.{stepped_so, wrote_so}
use Rattle.pr_rule.proofs.written.tell.Goals as goal

pub returns-clause-steps : goal.returns-clause-steps
returns-clause-steps c = λ history g r founds alerts h before o.
    stepped_so c.args.at.now.tells c.args.head.now c.write.new.head c.args.rows.now.items c.write.new.rows.items c.args.last.now c.write.new.last c.in_ok-written.written.told c.in_ok-written.written.stale history c.args.at.now.time
    c.as_slice.result.now c.args.offered alerts g r founds before c.as_slice.ensures (c.in_ok-written.ensures history h) o

pub returns-clause-wrote : goal.returns-clause-wrote
returns-clause-wrote c = λ history g r founds alerts h before o.
    wrote_so c.args.at.now.tells c.args.head.now c.write.new.head c.args.rows.now.items c.write.new.rows.items c.args.last.now c.write.new.last c.in_ok-written.written.told c.in_ok-written.written.stale history c.args.at.now.time
    c.as_slice.result.now c.args.offered alerts g r founds c.as_slice.ensures (c.in_ok-written.ensures history h) o
