use Rattle.std.proofs.Common.{Some, sym, subst}
use Rattle.pr_outside.specs.Outside.{Outside}
use Rattle.pr_top.specs.Means.{MeansCommand}
use Rattle.pr_top.specs.Words.{asked_by}
use Rattle.pr_top.specs.declared.command.Command as made
use Rattle.pr_top.proofs.over.do_command.Goals as goal

pub returns-in-Run-clause-means : goal.returns-in-Run-clause-means
returns-in-Run-clause-means g c =
    let before : Outside = record {
      input = g.I.Source.means c.args.input.now;
      files = g.F.Files.means c.args.files.now;
      store = g.K.Keeper.means c.args.keeper.now;
      out = g.O.Sink.means c.args.out.now;
    } in
    let now : Outside = record {
      input = g.I.Source.means c.run_script.new.input;
      files = g.F.Files.means c.run_script.new.files;
      store = g.K.Keeper.means c.run_script.new.keeper;
      out = g.O.Sink.means c.run_script.new.out;
    } in
    subst (λ (x : made.Command). MeansCommand (Some (asked_by x)) before now c.run_script.result) (sym c.in-Run.is) c.run_script.ensures.means

pub returns-in-TestRules-clause-means : goal.returns-in-TestRules-clause-means
returns-in-TestRules-clause-means g c =
    let before : Outside = record {
      input = g.I.Source.means c.args.input.now;
      files = g.F.Files.means c.args.files.now;
      store = g.K.Keeper.means c.args.keeper.now;
      out = g.O.Sink.means c.args.out.now;
    } in
    let now : Outside = record before { files = g.F.Files.means c.test_rules.new.files; out = g.O.Sink.means c.test_rules.new.out } in
    subst (λ (x : made.Command). MeansCommand (Some (asked_by x)) before now c.test_rules.result) (sym c.in-TestRules.is) (c.test_rules.ensures.means before)

pub returns-in-CheckRules-clause-means : goal.returns-in-CheckRules-clause-means
returns-in-CheckRules-clause-means g c =
    let before : Outside = record {
      input = g.I.Source.means c.args.input.now;
      files = g.F.Files.means c.args.files.now;
      store = g.K.Keeper.means c.args.keeper.now;
      out = g.O.Sink.means c.args.out.now;
    } in
    let now : Outside = record before { files = g.F.Files.means c.check_rules.new.files; out = g.O.Sink.means c.check_rules.new.out } in
    subst (λ (x : made.Command). MeansCommand (Some (asked_by x)) before now c.check_rules.result) (sym c.in-CheckRules.is) (c.check_rules.ensures.means before)

pub returns-in-CheckMetrics-clause-means : goal.returns-in-CheckMetrics-clause-means
returns-in-CheckMetrics-clause-means g c =
    let before : Outside = record {
      input = g.I.Source.means c.args.input.now;
      files = g.F.Files.means c.args.files.now;
      store = g.K.Keeper.means c.args.keeper.now;
      out = g.O.Sink.means c.args.out.now;
    } in
    let now : Outside = record before { input = g.I.Source.means c.check_metrics.new.input; out = g.O.Sink.means c.check_metrics.new.out } in
    subst (λ (x : made.Command). MeansCommand (Some (asked_by x)) before now c.check_metrics.result) (sym c.in-CheckMetrics.is) (c.check_metrics.ensures before)

pub returns-in-Exercise-clause-means : goal.returns-in-Exercise-clause-means
returns-in-Exercise-clause-means g c =
    let before : Outside = record {
      input = g.I.Source.means c.args.input.now;
      files = g.F.Files.means c.args.files.now;
      store = g.K.Keeper.means c.args.keeper.now;
      out = g.O.Sink.means c.args.out.now;
    } in
    let now : Outside = record before { store = g.K.Keeper.means c.exercise.new.keeper; out = g.O.Sink.means c.exercise.new.out } in
    subst (λ (x : made.Command). MeansCommand (Some (asked_by x)) before now c.exercise.result) (sym c.in-Exercise.is) (c.exercise.ensures before)

pub returns-in-Backfill-clause-means : goal.returns-in-Backfill-clause-means
returns-in-Backfill-clause-means g c =
    let before : Outside = record {
      input = g.I.Source.means c.args.input.now;
      files = g.F.Files.means c.args.files.now;
      store = g.K.Keeper.means c.args.keeper.now;
      out = g.O.Sink.means c.args.out.now;
    } in
    let now : Outside = record before { files = g.F.Files.means c.backfill.new.files; store = g.K.Keeper.means c.backfill.new.keeper; out = g.O.Sink.means c.backfill.new.out } in
    subst (λ (x : made.Command). MeansCommand (Some (asked_by x)) before now c.backfill.result) (sym c.in-Backfill.is) (c.backfill.ensures.means before)
