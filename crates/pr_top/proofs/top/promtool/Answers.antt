use Rattle.std.proofs.Common.{ap, map, string_bytes}
use Rattle.pr_outside.specs.Outside.{Outside}
use Rattle.pr_top.specs.Command.{command_of}
use Rattle.pr_top.proofs.Promising.{promises_of}
use Rattle.pr_top.proofs.top.promtool.Goals as goal

pub returns-clause-promises : goal.returns-clause-promises
returns-clause-promises g c =
    let before : Outside = record {
      input = g.I.Source.means c.args.input.now;
      files = g.F.Files.means c.args.files.now;
      store = g.K.Keeper.means c.args.keeper.now;
      out = g.O.Sink.means c.args.out.now;
    } in
    let now : Outside = record {
      input = g.I.Source.means c.promtool_over.new.input;
      files = g.F.Files.means c.promtool_over.new.files;
      store = g.K.Keeper.means c.promtool_over.new.keeper;
      out = g.O.Sink.means c.promtool_over.new.out;
    } in
    promises_of c.rows_decode_as_their_entries.ensures.only (command_of (map string_bytes c.args.words.now)) before now c.promtool_over.result c.promtool_over.ensures.means
    (λ unused. ap g.I.Source.means (c.promtool_over.ensures.input unused))
    (λ unused. ap g.F.Files.means (c.promtool_over.ensures.files unused))
    (λ unused. ap g.K.Keeper.means (c.promtool_over.ensures.keeper unused))
