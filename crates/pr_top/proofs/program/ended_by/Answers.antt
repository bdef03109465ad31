use Rattle.std.specs.Process.{exit_status}
use Rattle.pr_top.proofs.Commands.{ends_unread}
use Rattle.pr_top.proofs.program.ended_by.Goals as goal

pub returns-in-Err : goal.returns-in-Err
returns-in-Err g c = ends_unread (g.L.CommandLine.words c.args.line.now) _ (exit_status c.exit_of.result) c.exit_of.ensures
