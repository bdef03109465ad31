-- Over a head of which nothing is forgotten any time may be evaluated, and nothing is forgotten then.
use Rattle.std.proofs.Common.{ℕ, List, pos, ◌-ℤ◌, Result, Ok, Err, OnOk}
use Rattle.spec_rules.specs.spec_history.declared.entry.Entry.{Entry}
use Rattle.pr_engine.specs.pr_head.private.Intake.{Series}
use Rattle.pr_engine.specs.pr_range.private.Asks.{LastAsks, Passed}
use Rattle.spec_rules.specs.Groups.{Group}
use Rattle.pr_engine.specs.pr_group.private.Keeping.{MayEvaluateOver}
use Rattle.pr_engine.specs.pr_manager.private.Keeping.{HasGoneOn}
use Rattle.pr_engine.specs.private.Rows.{HoldsAll}
use Rattle.pr_backfill.specs.private.Keeping.{KeepsToFill}
use Rattle.pr_backfill.specs.declared.backfill_command.filling.Filling.{Filling}
use Rattle.pr_backfill.specs.private.Standing.{KeepsFilling}

pub may_evaluate : (head : Series) (history : List Entry) (time : ℕ) → HoldsAll head history → MayEvaluateOver head history time
may_evaluate head history time h = record { lawful = h.lawful; holds = h.holds; whole = h.whole (pos time -ℤ pos 3888000000) }

pub keeps_on : {R T E : Type 0} (fits : R → List Entry → Type 0) (last : R → LastAsks) (passed : R → Passed) (old : Series) (history : List Entry) (r : Result T E) (filling : Filling R) (later : List Entry) (groups : List Group)
    → HoldsAll old history → OnOk r (KeepsToFill fits last passed later filling.groups groups) → OnOk r (HasGoneOn old filling.head history later) → OnOk r (KeepsFilling fits last passed filling later groups)
keeps_on fits last passed old history (Ok x) filling later groups h each head = record { holds = record { holds = head.holds; whole = λ x. head.whole x (h.whole x); lawful = head.lawful }; each = each }
keeps_on fits last passed old history (Err e) filling later groups h each head = tt
