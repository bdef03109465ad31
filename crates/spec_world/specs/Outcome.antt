-- What an event comes to.
use Rattle.std.specs.Prelude.{ℕ, true, cond, nat_lt, List, ◌++◌, Option, Some, None}
use Rattle.spec_vectors.specs.spec_history.declared.entry.Entry.{Entry}
use Rattle.spec_rules.specs.Groups.{Group}
use Rattle.spec_world.specs.declared.report.Report.{Report}
use Rattle.spec_world.specs.declared.report.Report.TheVariants as report
use Rattle.spec_world.specs.Targets.{Target}
use Rattle.spec_world.specs.World.{World, begin}

-- what an event changes beside the history and the last time: nothing; the targets; the groups, by
-- an evaluation; the groups, by a reload; all but the history
pub data Change : Type 0 where
  nothing_else : Change
  targets_become : List Target → Change
  groups_become : List Group → Change
  reloads : List Group → Change
  begins_anew : Change

-- It is refused, with its report; or it is accepted, with its report, the entries that it adds to
-- the history, and what it changes.
pub data EventOutcome : Type 0 where
  refuse : Report → EventOutcome
  accept : Report → List Entry → Change → EventOutcome

-- what is at a time before the last event is refused
abbrev pub unless_backwards : Option ℕ → ℕ → EventOutcome → EventOutcome
unless_backwards None time o = o
unless_backwards (Some last) time o = cond (nat_lt time last) (refuse (report.Backwards last time)) o

-- The world after an event that is accepted at this time: it is the last one, and its entries come
-- behind the history.
abbrev pub changed_by : Change → World → ℕ → List Entry → World
changed_by nothing_else w time entries = record { history = w.history ++ entries; last = Some time; targets = w.targets; groups = w.groups; reloaded = w.reloaded }
changed_by (targets_become targets) w time entries =
    record { history = w.history ++ entries; last = Some time; targets = targets; groups = w.groups; reloaded = w.reloaded }
changed_by (groups_become groups) w time entries =
    record { history = w.history ++ entries; last = Some time; targets = w.targets; groups = groups; reloaded = w.reloaded }
changed_by (reloads groups) w time entries =
    record { history = w.history ++ entries; last = Some time; targets = w.targets; groups = groups; reloaded = true }
changed_by begins_anew w time entries = begin (Some time) (w.history ++ entries)
