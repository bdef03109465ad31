-- What `exercise` promises, by what the four objects mean before and after it.
use Rattle.std.specs.Prelude.{◌≡◌, ◌≢◌, ℕ, ◌<◌, ◌≤◌, List, [], ◌++◌, length, take, Result, Ok, Err, IfSome, IsErr, OnOk}
use Rattle.std.specs.Io.KnownBytes.{Appends}
use Rattle.pr_text.specs.spec_history.declared.entry.Entry.{Entry}
use Rattle.pr_outside.specs.spec_history.declared.row.Row.{Row}
use Rattle.pr_text.specs.spec_history.Histories.{history_of}
use Rattle.pr_text.specs.spec_rules.Settings.{of_a_run}
use Rattle.pr_text.specs.spec_world.Step.{rows_of}
use Rattle.pr_text.specs.spec_world.World.{start}
use Rattle.pr_exercise.specs.Exercise.{exercise_events}
use Rattle.pr_exercise.specs.Summary.{exercise_rows, summary}
use Rattle.pr_outside.specs.Ends.{Ends, place_of, stop_status}
use Rattle.pr_outside.specs.Opening.{OpensBy}
use Rattle.pr_outside.specs.Outside.{Outside, AreCalm}
use Rattle.pr_outside.specs.declared.status.status.Status.{Status}
use Rattle.pr_outside.specs.declared.status.status.Status.TheVariants as status
use Rattle.pr_outside.specs.declared.status.status.Stop.{Stop}
use Rattle.pr_outside.specs.declared.status.status.Stop.TheVariants.{BadRow}
use Rattle.pr_text.specs.BadRows.{IsBadStart, bad_row_text}
use Rattle.pr_outside.specs.Stores.{AreKept, IsBadIn, OverRows, StartsTelling}

-- how the program ends after it
abbrev pub exercise_status : Result Unit Stop → Status
exercise_status (Ok done) = status.Done
exercise_status (Err stop) = stop_status stop

-- It was whole: it wrote its summary, and kept the rows of its events.
pub record IsWhole (rounds : ℕ) (history : List Entry) (before now : Outside) : Type 0 where
  pub written : Appends before.out.taken now.out.taken (summary history rounds)
  pub kept : AreKept (history ++ exercise_rows history rounds) now.store

-- So many of its events were answered, whose rows are kept, where they are told; and a front of the
-- summary was written, of which nothing is while an event is not answered.
pub record IsFront (rounds : ℕ) (history : List Entry) (before now : Outside) : Type 0 where
  pub answered : ℕ
  pub within : answered ≤ length (exercise_events rounds)
  pub kept : AreKept (history ++ rows_of of_a_run (start history) (take answered (exercise_events rounds))) now.store
  pub count : ℕ
  pub text : Appends before.out.taken now.out.taken (take count (summary history rounds))
  pub waits : answered < length (exercise_events rounds) → count ≡ 0

-- What it does over rows that tell this history. It meets no bad row.
pub record EndsOver (rounds : ℕ) (history : List Entry) (before now : Outside) (ending : Result Unit Stop) : Type 0 where
  pub whole : OnOk ending (IsWhole rounds history before now)
  pub front : IsFront rounds history before now
  pub fine : (index : ℕ) → ending ≢ Err (BadRow index)

-- Over rows of which this is the first bad one nothing but its line is written, or a front of it.
pub record EndsInto (index : ℕ) (rows : List Row) (before now : Outside) (ending : Result Unit Stop) : Type 0 where
  pub front : IsBadStart index (place_of ending) rows before now
  pub stopped : IsErr ending

-- And what it promises then, where no call was refused and memory sufficed.
pub record ExercisesOver (rounds : ℕ) (history : List Entry) (before now : Outside) (ending : Result Unit Stop) (result : Status) : Type 0 where
  pub done : EndsOver rounds history before now ending
  pub told : AreCalm before now → result ≢ status.Memory → (result ≡ status.Done) × IsWhole rounds history before now

pub record ExercisesInto (index : ℕ) (rows : List Row) (before now : Outside) (ending : Result Unit Stop) (result : Status) : Type 0 where
  pub done : EndsInto index rows before now ending
  pub told : AreCalm before now → result ≢ status.Memory → (result ≡ status.StoreFault) × Appends before.out.taken now.out.taken (bad_row_text index)

-- by what the rows at the start tell
abbrev pub EndsBy : Result (List Entry) ℕ → ℕ → List Row → Outside → Outside → Result Unit Stop → Type 0
EndsBy (Ok history) rounds rows before now ending = EndsOver rounds history before now ending
EndsBy (Err index) rounds rows before now ending = EndsInto index rows before now ending

abbrev pub ExercisesBy : Result (List Entry) ℕ → ℕ → List Row → Outside → Outside → Result Unit Stop → Status → Type 0
ExercisesBy (Ok history) rounds rows before now ending result = ExercisesOver rounds history before now ending result
ExercisesBy (Err index) rounds rows before now ending result = ExercisesInto index rows before now ending result

-- What `exercise` promises, by how it ended, whose status is the program's, and what stopped it.
pub record MeansExercise (rounds : ℕ) (before now : Outside) (result : Status) : Type 0 where
  pub ending : Result Unit Stop
  pub answer : result ≡ exercise_status ending
  pub ends : Ends (IsBadIn now.store) ⊥ before now ending
  -- it opens a store in memory
  pub opens : OpensBy [] before.store.paths now.store.paths ending
  -- As long as what the store stands on has kept its word, an exercise that neither the store nor want of
  -- memory stopped leaves the rows told.
  pub tells : StartsTelling before.store now.store ending
  -- a bad row is told, and nothing else, over any store
  pub row : (index : ℕ) → ending ≡ Err (BadRow index) → Appends before.out.taken now.out.taken (bad_row_text index)
  -- What is written and kept, over the rows at the start, where the store tells its rows at the end.
  pub over : IfSome now.store.rows (λ all. OverRows before.store.rows all (λ rows. ExercisesBy (history_of rows) rounds rows before now ending result))
