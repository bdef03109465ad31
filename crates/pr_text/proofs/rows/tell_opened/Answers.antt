use Rattle.pr_outside.proofs.Ended.{write_on}
use Rattle.pr_text.proofs.rows.tell_opened.Goals as goal

pub returns-in_err-send-clause-ends : goal.returns-in_err-send-clause-ends
returns-in_err-send-clause-ends g c =
    write_on _ _ (g.O.Sink.means c.args.out.now) (g.O.Sink.means c.send.new.out) c.from_residual-in_err-send.result c.in_err-send.field-0.0
    c.from_residual-in_err-send.ensures.1 c.in_err-send.ensures.ends
