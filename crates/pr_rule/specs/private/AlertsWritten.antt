-- What was written of alerts last.
use Rattle.std.specs.Prelude.{◌≡◌, List, map}
use Rattle.pr_ast.specs.pr_num.declared.value.Num.{Num}
use Rattle.pr_labels.specs.declared.item.Item.{Item}
use Rattle.spec_rules.specs.spec_alerts.declared.record.Record.{Record}
use Rattle.spec_rules.specs.spec_alerts.Records.{samples}
use Rattle.pr_rule.specs.declared.alert.written.AlertKey.{AlertKey}

-- what of an alert decides what is written of it
abbrev pub alert_key : Record → AlertKey
alert_key r = record { labels = r.labels; state = r.state; active = r.active }

-- These are written of any alerts with these labels, states and active times.
abbrev pub IsWrittenOf : List AlertKey → List (Item Num) → Type 0
IsWrittenOf keys items = (rs : List Record) → map alert_key rs ≡ keys → items ≡ samples rs
