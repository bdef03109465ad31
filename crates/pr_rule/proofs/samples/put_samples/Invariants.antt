use Rattle.std.proofs.Common.{List, take}
use Rattle.spec_rules.specs.spec_history.declared.entry.Entry.{Entry}
use Rattle.pr_eval.specs.pr_head.private.Holds.{Holds}
use Rattle.pr_rule.specs.private.Written.{Writes}
use Rattle.pr_rule.proofs.samples.put_samples.Given as goal

-- the first ones were put
abbrev pub invariant-loop-item : goal.invariant-loop-item
invariant-loop-item l = (history : List Entry) → Holds l.initial.head history
    → Writes l.at.tells l.initial.head l.head l.initial.rows.items l.rows.items l.initial.told.items l.told.items l.initial.wrote.items l.wrote.items history l.at.time (take l.item-index l.items)
