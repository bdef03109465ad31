use Rattle.std.proofs.Common.{◌≡◌, ◌++◌, drop, map}
use Rattle.pr_rule.specs.private.AlertsWritten.{alert_key}
use Rattle.pr_rule.proofs.alert.written.keys_of.Given as goal

-- the keys so far, and those to come
abbrev pub invariant-loop-r : goal.invariant-loop-r
invariant-loop-r l = l.keys.items ++ map alert_key (drop l.r-index l.list) ≡ map alert_key l.list
