-- The line of a bad row, and what a command wrote that stopped at one.
use Rattle.std.specs.Prelude.{ℕ, List, [], ◌++◌, codes, decimal, Result, Ok, Err, ◌≡◌, ◌≤◌, length, take, IfSome}
use Rattle.spec_world.specs.spec_history.declared.entry.Entry.{Entry}
use Rattle.std.specs.declared.option.Option.{Option}
use Rattle.std.specs.Io.KnownBytes.{Appends}
use Rattle.pr_outside.specs.spec_history.declared.row.Row.{Row}
use Rattle.pr_outside.specs.Ends.{StopPlace, at_row}
use Rattle.pr_outside.specs.Outside.{Outside}

-- The only line where a row at the start is bad, and the last one where a run that begins anew finds
-- one.
unfoldable pub bad_row_text : ℕ → List ℕ
bad_row_text index = codes "bad row " ++ (decimal index ++ codes "\n")

-- the line of a bad row, by what the rows tell
abbrev pub bad_text : Result (List Entry) ℕ → List ℕ
bad_text (Ok history) = []
bad_text (Err index) = bad_row_text index

-- A row that stops a run, at its start or where it begins anew, is told by the last line that was
-- written. That holds over any store, also where it does not tell its rows.
pub record TellsRow (index : ℕ) (old new : Option (List ℕ)) : Type 0 where
  pub front : List ℕ
  pub text : Appends old new (front ++ bad_row_text index)

-- Over rows of which one is bad no order is answered: a front of the line that tells its index was
-- written, and the rows, where they are told, are as they were. Where the run stopped for a row it is
-- that one, and the line was written whole.
pub record IsBadStart (index : ℕ) (place : StopPlace) (rows : List Row) (before now : Outside) : Type 0 where
  pub count : ℕ
  pub text : Appends before.out.taken now.out.taken (take count (bad_row_text index))
  pub kept : IfSome now.store.rows (λ all. all ≡ rows)
  pub line : (at : ℕ) → place ≡ at_row at → (at ≡ index) × (length (bad_row_text index) ≤ count)
