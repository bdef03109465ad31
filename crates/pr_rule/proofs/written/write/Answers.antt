use Rattle.spec_rules.specs.spec_history.Admission.{put_all}
use Rattle.pr_rule.specs.private.Written.{entries_of}
use Rattle.pr_rule.proofs.Stepping.{written_so}
use Rattle.pr_rule.proofs.written.write.Goals as goal

pub returns : goal.returns
returns c = λ history h.
    let w = c.in_ok-put_samples.ensures history h in
    let after = put_all history (entries_of c.args.at.now.time c.args.items.now) in
    written_so c.args.at.now.tells c.args.head.now c.put_samples.new.head c.mark_if.new.head c.args.rows.now.items c.put_samples.new.rows.items c.mark_if.new.rows.items
    c.new-told.result.items c.put_samples.new.told.items c.new-2.result c.in_ok-wrote.wrote.items c.put_samples.new.wrote.items c.deref.result.now c.as_slice.result.now c.args.last.now c.new.result
    c.new-3.result c.in_ok-stale.stale.items history c.args.at.now.time c.args.items.now
    c.new-told.ensures.items c.in_ok-wrote.ensures.items w c.deref.ensures.value c.as_slice.ensures
    (c.in_ok-stale.ensures.puts after w.puts.taken.holds) (c.in_ok-stale.ensures.marked after w.puts.taken.holds) c.new-2.ensures c.new-3.ensures c.new.ensures
