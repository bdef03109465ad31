-- The command that the program makes of the words, and what it asks for.
use Rattle.std.specs.Prelude.{Option, Some, None, map, string_bytes}
use Rattle.pr_top.specs.Command.{Command, runs, tests_rules, checks_rules, checks_metrics, exercises, backfills}
use Rattle.pr_top.specs.declared.command.Command as made
use Rattle.pr_top.specs.declared.command.Command.TheVariants as command

abbrev pub asked_by : made.Command → Command
asked_by (command.Run path) = runs path.now
asked_by (command.TestRules names) = tests_rules (map string_bytes names.now)
asked_by (command.CheckRules names) = checks_rules (map string_bytes names.now)
asked_by command.CheckMetrics = checks_metrics
asked_by (command.Exercise rounds) = exercises rounds
asked_by (command.Backfill path times names) = backfills path.now times (map string_bytes names.now)

abbrev pub asks_for : Option made.Command → Option Command
asks_for None = None
asks_for (Some c) = Some (asked_by c)
