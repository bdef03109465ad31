-- What is answered to an event, and what it added.
use Rattle.std.specs.Prelude.{◌≡◌, List, []}
use Rattle.pr_head.specs.spec_history.declared.entry.Entry.{Entry}
use Rattle.pr_manager.specs.spec_world.declared.report.Report.{Report}
use Rattle.pr_manager.specs.private.Rounds.{admitted_in}
use Rattle.pr_manager.specs.spec_world.Outcome.{EventOutcome, refuse, accept, nothing_else}
use Rattle.pr_engine.specs.declared.taken.Taken.{Taken}
use Rattle.pr_engine.specs.declared.taken.Taken.TheVariants as taken

abbrev pub report_in : Taken → Report
report_in (taken.Told report added) = report
report_in (taken.Evaluated report) = report

abbrev pub added_in : Taken → List Entry
added_in (taken.Told report added) = added
added_in (taken.Evaluated report) = admitted_in report

-- it is answered as an outcome says that adds nothing, and changes nothing else
abbrev pub HasOutcome : EventOutcome → Taken → Type 0
HasOutcome (refuse report) t = (report_in t ≡ report) × (added_in t ≡ [])
HasOutcome (accept report rows change) t = (report_in t ≡ report) × (added_in t ≡ rows) × (rows ≡ []) × (change ≡ nothing_else)
