use Rattle.std.proofs.Common.{Option, None, Some, sym, ap, ◌∙◌, subst}
use Rattle.pr_outside.specs.Outside.{Outside}
use Rattle.pr_top.specs.Command.{Command, uses}
use Rattle.pr_outside.specs.Status.{HasCause}
use Rattle.pr_top.specs.Means.{HasBadRow, MeansCommand}
use Rattle.pr_top.specs.Words.{asked_by, asks_for}
use Rattle.pr_top.proofs.Commands.{command_cause}
use Rattle.pr_top.proofs.over.promtool_over.Goals as goal

pub returns-in-Some-clause-means : goal.returns-in-Some-clause-means
returns-in-Some-clause-means g c =
    let before : Outside = record {
      input = g.I.Source.means c.args.input.now;
      files = g.F.Files.means c.args.files.now;
      store = g.K.Keeper.means c.args.keeper.now;
      out = g.O.Sink.means c.args.out.now;
    } in
    let now : Outside = record {
      input = g.I.Source.means c.do_command.new.input;
      files = g.F.Files.means c.do_command.new.files;
      store = g.K.Keeper.means c.do_command.new.keeper;
      out = g.O.Sink.means c.do_command.new.out;
    } in
    subst (λ (x : Option Command). MeansCommand x before now c.do_command.result) (ap asks_for (sym c.in-Some.is) ∙ c.command_of.ensures)
    c.do_command.ensures.means

pub returns-in-Some-clause-cause : goal.returns-in-Some-clause-cause
returns-in-Some-clause-cause g c =
    let before : Outside = record {
      input = g.I.Source.means c.args.input.now;
      files = g.F.Files.means c.args.files.now;
      store = g.K.Keeper.means c.args.keeper.now;
      out = g.O.Sink.means c.args.out.now;
    } in
    let now : Outside = record {
      input = g.I.Source.means c.do_command.new.input;
      files = g.F.Files.means c.do_command.new.files;
      store = g.K.Keeper.means c.do_command.new.keeper;
      out = g.O.Sink.means c.do_command.new.out;
    } in
    subst (λ (x : Option Command). HasCause (HasBadRow x now.store) before now c.do_command.result) (ap asks_for (sym c.in-Some.is) ∙ c.command_of.ensures)
    (command_cause (Some (asked_by c.in-Some.command)) before now c.do_command.result c.do_command.ensures.means)

pub returns-in-Some-clause-input : goal.returns-in-Some-clause-input
returns-in-Some-clause-input g c =
    λ none. c.do_command.ensures.input (ap (λ (x : Option Command). (uses x).input) (ap asks_for (sym c.in-Some.is) ∙ c.command_of.ensures) ∙ none)

pub returns-in-Some-clause-files : goal.returns-in-Some-clause-files
returns-in-Some-clause-files g c =
    λ none. c.do_command.ensures.files (ap (λ (x : Option Command). (uses x).files) (ap asks_for (sym c.in-Some.is) ∙ c.command_of.ensures) ∙ none)

pub returns-in-Some-clause-keeper : goal.returns-in-Some-clause-keeper
returns-in-Some-clause-keeper g c =
    λ none. c.do_command.ensures.keeper (ap (λ (x : Option Command). (uses x).store) (ap asks_for (sym c.in-Some.is) ∙ c.command_of.ensures) ∙ none)

pub returns-in-None-clause-means : goal.returns-in-None-clause-means
returns-in-None-clause-means g c =
    let before : Outside = record {
      input = g.I.Source.means c.args.input.now;
      files = g.F.Files.means c.args.files.now;
      store = g.K.Keeper.means c.args.keeper.now;
      out = g.O.Sink.means c.args.out.now;
    } in
    let now : Outside = record before { out = g.O.Sink.means c.refuse_words.new.out } in
    subst (λ (x : Option Command). MeansCommand x before now c.refuse_words.result) (ap asks_for (sym c.in-None.is) ∙ c.command_of.ensures) (c.refuse_words.ensures before)

pub returns-in-None-clause-cause : goal.returns-in-None-clause-cause
returns-in-None-clause-cause g c =
    let before : Outside = record {
      input = g.I.Source.means c.args.input.now;
      files = g.F.Files.means c.args.files.now;
      store = g.K.Keeper.means c.args.keeper.now;
      out = g.O.Sink.means c.args.out.now;
    } in
    let now : Outside = record before { out = g.O.Sink.means c.refuse_words.new.out } in
    subst (λ (x : Option Command). HasCause (HasBadRow x now.store) before now c.refuse_words.result) (ap asks_for (sym c.in-None.is) ∙ c.command_of.ensures)
    (command_cause None before now c.refuse_words.result (c.refuse_words.ensures before))
