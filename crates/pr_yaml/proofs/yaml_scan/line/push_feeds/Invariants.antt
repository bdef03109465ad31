use Rattle.std.proofs.Common.{◌≡◌, ◌++◌, ◌-◌, ◌≤◌}
use Rattle.pr_yaml.specs.Lines.{feeds}
use Rattle.pr_yaml.proofs.yaml_scan.line.push_feeds.Given as goal

abbrev pub invariant-loop-done : goal.invariant-loop-done
invariant-loop-done l = record { within : l.done ≤ l.count; text : l.text.items ≡ l.initial.text.items ++ feeds l.done }

abbrev pub decreases-loop-done : goal.decreases-loop-done
decreases-loop-done l = l.count - l.done
