-- How a run begins. Private contracts cite this: a reader can pass it over.
use Rattle.std.specs.Prelude.{ℕ, List, [], Option, Result, Ok, Err}
use Rattle.std.specs.Io.KnownBytes.{Appends}
use Rattle.pr_queue.specs.spec_history.declared.entry.Entry.{Entry}
use Rattle.pr_outside.specs.Meant.{Store}
use Rattle.pr_text.specs.spec_world.World.{World}
use Rattle.pr_run.specs.private.Keeping.{KeepsProgress, Run, unanswered}
use Rattle.pr_text.specs.BadRows.{bad_row_text}
use Rattle.pr_run.specs.Told.{told_of}

-- the first line, by what the rows at the start tell
abbrev pub first_text : Result (List Entry) ℕ → List ℕ
first_text (Ok history) = told_of history []
first_text (Err index) = bad_row_text index

-- No order has come yet over the rows of a store, and the first line is written.
pub record Begins {E : Type 0} (stands_for : E → Store → World → Type 0) (run : Run E) (store : Store) (old new : Option (List ℕ)) : Type 0 where
  pub history : List Entry
  pub keeps : KeepsProgress stands_for run store (unanswered history)
  pub told : Appends old new (told_of history [])
