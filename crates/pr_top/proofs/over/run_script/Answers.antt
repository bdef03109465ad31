use Rattle.pr_outside.specs.Outside.{Outside}
use Rattle.pr_top.proofs.Commands.{means_run}
use Rattle.pr_top.proofs.over.run_script.Goals as goal

pub returns-clause-means : goal.returns-clause-means
returns-clause-means g c =
    let before : Outside = record {
      input = g.I.Source.means c.args.input.now;
      files = g.F.Files.means c.args.files.now;
      store = g.K.Keeper.means c.args.keeper.now;
      out = g.O.Sink.means c.args.out.now;
    } in
    let now : Outside = record {
      input = g.I.Source.means c.run.new.input;
      files = g.F.Files.means c.run.new.files;
      store = g.K.Keeper.means c.run.new.keeper;
      out = g.O.Sink.means c.run.new.out;
    } in
    means_run c.args.path.now before now c.run.result c.status_of.result c.status_of.ensures c.run.ensures.ends c.run.ensures.opens c.run.ensures.long c.run.ensures.most c.run.ensures.row c.run.ensures.tells c.run.ensures.over
