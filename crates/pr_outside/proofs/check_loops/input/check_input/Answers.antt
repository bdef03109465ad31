use Rattle.pr_outside.proofs.Commands.{means_input}
use Rattle.pr_outside.proofs.check_loops.input.check_input.Goals as goal

pub returns : goal.returns
returns g c =
    let input = g.I.Source.means in
    let out = g.O.Sink.means in
    λ others. means_input g.C.InputCheck.told (record others { input = input c.args.input.now; out = out c.args.out.now })
    (record others { input = input c.check_all.new.input; out = out c.check_all.new.out }) c.check_all.result c.status_of.result c.status_of.ensures
    (c.check_all.ensures.ends others) c.check_all.ensures.told c.check_all.ensures.front c.check_all.ensures.silent c.check_all.ensures.long c.check_all.ensures.most
