use Rattle.std.proofs.Common.{◌≡◌, take, map}
use Rattle.pr_rule.specs.private.AlertsWritten.{alert_key}
use Rattle.pr_rule.proofs.alert.written.are_of.Given as goal

-- the first ones are these keys
abbrev pub invariant-loop-place : goal.invariant-loop-place
invariant-loop-place l = map alert_key (take l.place l.list) ≡ take l.place l.keys
