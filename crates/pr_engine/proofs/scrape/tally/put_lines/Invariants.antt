use Rattle.std.proofs.Common.{◌≡◌, ◌≤◌, List, take}
use Rattle.pr_head.specs.spec_history.declared.entry.Entry.{Entry}
use Rattle.pr_head.specs.private.Holds.{Holds}
use Rattle.pr_manager.specs.spec_world.Scrapes.{offered_entries, offers}
use Rattle.pr_head.specs.private.Intake.{Puts}
use Rattle.pr_engine.specs.private.Tallying.{Tallies}
use Rattle.pr_engine.proofs.scrape.tally.put_lines.Given as goal

-- the first lines were put, and counted; what was made is still of the target
abbrev pub invariant-loop-line : goal.invariant-loop-line
invariant-loop-line l = record {
  fit : l.made ≡ l.target;
  few : l.tally.dropped ≤ l.line-index;
  puts : (history : List Entry) → Holds l.initial.head history
      → Puts l.initial.head l.head l.initial.rows.items l.rows.items history (offered_entries (offers l.target l.now (take l.line-index l.lines)));
  tallies : (history : List Entry) → Holds l.initial.head history
      → Tallies l.initial.tally l.tally l.target l.now (take l.line-index l.lines) history;
}
