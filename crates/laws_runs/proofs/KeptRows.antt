-- The rows of events, read again.
use Rattle.std.proofs.Common.{◌≡◌, ◌<◌, ◌^◌, ℕ, List, [], ◌++◌, map, Ok, ap, subst, sym, ◌∙◌}
use Rattle.pr_labels.specs.LabelSet.{IsLabelSet}
use Rattle.pr_labels.specs.declared.pair.Pair.{Pair}
use Rattle.pr_num.specs.declared.value.Point.{Point}
use Rattle.spec_history.specs.private.Laws.{IsLawful, IsLawfulAfter, AreEntries}
use Rattle.spec_history.specs.Admission.{admit}
use Rattle.spec_history.specs.declared.append.Append.{Append}
use Rattle.spec_history.specs.declared.append.Append.TheVariants as append
use Rattle.spec_history.specs.declared.entry.Entry.{Entry}
use Rattle.spec_history.proofs.Lawful.{after_parts}
use Rattle.pr_outside.specs.spec_history.declared.row.Row.{Row}
use Rattle.spec_history.specs.Histories.{history_of}
use Rattle.spec_history.specs.Points.{IsFitPoint}
use Rattle.spec_history.specs.Rows.{IsEntry, encoded}
use Rattle.spec_rules.specs.Settings.{Settings}
use Rattle.spec_world.specs.Outcome.{EventOutcome, refuse, accept}
use Rattle.spec_world.specs.Step.{entry_of, next, outcome, outcome_by, outcome_in_time, rows_of, step_by, world_after}
use Rattle.spec_world.specs.World.{World, start}
use Rattle.spec_world.specs.declared.event.Event.{Event}
use Rattle.spec_world.specs.declared.event.Event.TheVariants.{Add}
use Rattle.spec_world.proofs.Steps.{after_last}

pub kept_rows_tell : (s : Settings) (rows : List Row) (history : List Entry) (events : List Event) → AreEntries (rows_of s (start history) events)
    → (world_after s (start history) events).history ≡ history ++ rows_of s (start history) events → IsLawful (world_after s (start history) events).history
    → ((entries : List Entry) → AreEntries entries → IsLawfulAfter history entries → history_of (rows ++ map encoded entries) ≡ Ok (history ++ entries))
    → history_of (rows ++ map encoded (rows_of s (start history) events)) ≡ Ok (world_after s (start history) events).history
kept_rows_tell s rows history events are whole lawful goes_on =
    let added = rows_of s (start history) events in
    goes_on added are (after_parts [] history added (subst IsLawful whole lawful)).1 ∙ ap Ok (sym whole)

-- what an outcome adds
abbrev AddsEntries : EventOutcome → Type 0
AddsEntries (refuse report) = Unit {0}
AddsEntries (accept report rows change) = AreEntries rows

added_entries : (w : World) (time : ℕ) (o : EventOutcome) → AddsEntries o → AreEntries (step_by w time o).rows
added_entries w time (refuse report) h = tt
added_entries w time (accept report rows change) h = h

by_admission : (a : Append) (e : Entry) → IsEntry e → AddsEntries (outcome_by a e)
by_admission append.Added e h = (h, tt)
by_admission append.Same e h = tt
by_admission (append.OutOfOrder last) e h = tt
by_admission (append.Conflict kept) e h = tt

pub sample_entries : (s : Settings) (w : World) (time : ℕ) (labels : List Pair) (point : Point) → IsLabelSet labels → time < 2 ^ 42 → IsFitPoint point → AreEntries (next s w (Add time labels point)).rows
unfolding next
sample_entries s w time labels point are early fit =
    let e = entry_of time labels point in
    let o = outcome_in_time s w (Add time labels point) in
    added_entries w time (outcome s w (Add time labels point))
    (after_last AddsEntries w.last time o (λ last. tt) (by_admission (admit w.history labels time point) e (record { labels = are; time = early; point = fit })))
