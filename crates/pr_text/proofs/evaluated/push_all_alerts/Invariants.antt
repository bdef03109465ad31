use Rattle.std.proofs.Common.{◌≡◌, ◌++◌, drop, flat_map, length, take}
use Rattle.pr_text.specs.Evaluated.{alert_text}
use Rattle.pr_text.proofs.evaluated.push_all_alerts.Given as goal

-- what is written, and what is to come
abbrev pub invariant-loop-alert : goal.invariant-loop-alert
invariant-loop-alert l = record {
  written : l.text.items ++ flat_map alert_text (drop l.alert-index l.alerts) ≡ l.fn.text.items ++ flat_map alert_text l.alerts;
  front : take (length l.fn.text.items) l.text.items ≡ l.fn.text.items;
}
