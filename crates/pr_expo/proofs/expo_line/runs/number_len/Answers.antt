use Rattle.pr_expo.specs.private.Runs.{lengthens_number}
use Rattle.pr_expo.proofs.RunSteps.{no_boundary, no_run}
use Rattle.pr_expo.proofs.expo_line.runs.number_len.Goals as goal

pub returns-in_default : goal.returns-in_default
returns-in_default c = record {
  boundary = no_boundary c.args.text.now c.utf8.text;
  run = no_run (lengthens_number c.args.place) c.args.text.now;
}
