-- How far an exercise has come. Private contracts cite this: a reader can pass it over.
use Rattle.std.specs.Prelude.{◌≡◌, ℕ, ◌≤◌, List, ◌++◌, length, take, Result, Ok, Err}
use Rattle.pr_text.specs.spec_history.declared.entry.Entry.{Entry}
use Rattle.pr_outside.specs.Meant.{Store}
use Rattle.pr_outside.specs.declared.status.status.Stop.{Stop}
use Rattle.pr_text.specs.spec_rules.Settings.{of_a_run}
use Rattle.pr_text.specs.spec_world.Step.{rows_of, world_after}
use Rattle.pr_text.specs.spec_world.World.{World, start}
use Rattle.pr_text.specs.spec_world.declared.event.Event.{Event}
use Rattle.pr_exercise.specs.Summary.{lines_told}
use Rattle.pr_outside.specs.Stores.{TellsHistory}
use Rattle.pr_exercise.specs.private.Tallies.{tally_of}
use Rattle.pr_exercise.specs.declared.session.Session.{Session}
use Rattle.pr_exercise.specs.declared.tally.Tally.{Tally}

-- These events are answered: the world after them is kept, and the lines are counted that tell of them.
pub record ExerciseStands {E : Type 0} (stands_for : E → Store → World → Type 0) (history : List Entry) (done : List Event) (s : Session E) (store : Store) : Type 0 where
  pub world : stands_for s.kept store (world_after of_a_run (start history) done)
  pub tally : s.tally ≡ tally_of (lines_told history done)

-- So many of these events are answered: the store tells the history after them.
pub record ExerciseHalts (history : List Entry) (events : List Event) (store : Store) : Type 0 where
  pub answered : ℕ
  pub within : answered ≤ length events
  pub tells : TellsHistory store (history ++ rows_of of_a_run (start history) (take answered events))

-- what becomes of events, by how the call ended that was to answer the last of them
abbrev pub ExerciseComes : {E T : Type 0} → (E → Store → World → Type 0) → List Entry → List Event → Session E → Store → Result T Stop → Type 0
ExerciseComes stands_for history events s store (Ok done) = ExerciseStands stands_for history events s store
ExerciseComes stands_for history events s store (Err stop) = ExerciseHalts history events store

-- what becomes of all events: the lines that tell of them are counted, and their rows are kept
pub record IsCounted (history : List Entry) (events : List Event) (store : Store) (t : Tally) : Type 0 where
  pub tally : t ≡ tally_of (lines_told history events)
  pub tells : TellsHistory store (history ++ rows_of of_a_run (start history) events)

abbrev pub EndsCounted : List Entry → List Event → Store → Result Tally Stop → Type 0
EndsCounted history events store (Ok t) = IsCounted history events store t
EndsCounted history events store (Err stop) = ExerciseHalts history events store
