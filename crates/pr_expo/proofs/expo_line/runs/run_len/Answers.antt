use Rattle.pr_expo.specs.private.Runs.{lengthens}
use Rattle.pr_expo.proofs.RunSteps.{no_boundary, no_run}
use Rattle.pr_expo.proofs.expo_line.runs.run_len.Goals as goal

pub returns-in_default : goal.returns-in_default
returns-in_default c = record {
  boundary = no_boundary c.args.text.now c.utf8.text;
  run = no_run (lengthens c.args.place.now) c.args.text.now;
}
