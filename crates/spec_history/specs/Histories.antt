-- The history that kept rows tell, or the first row that tells none.
use Rattle.std.specs.Prelude.{ℕ, ◌+◌, List, [], ◌∷◌, ◌++◌, map, Option, Some, None, Result, Ok, Err}
use Rattle.spec_history.specs.Admission.{admit}
use Rattle.spec_history.specs.declared.append.Append.{Append}
use Rattle.spec_history.specs.declared.append.Append.TheVariants.{Added, Same, OutOfOrder, Conflict}
use Rattle.spec_history.specs.declared.entry.Entry.{Entry}
use Rattle.spec_history.specs.declared.row.Row.{Row}
use Rattle.spec_history.specs.Rows.{decoded}

-- what is told later, where the row with this index is added; else that index
abbrev pub taken_by : Append → ℕ → Result (List Entry) ℕ → Result (List Entry) ℕ
taken_by Added index later = later
taken_by Same index later = Err index
taken_by (OutOfOrder last) index later = Err index
taken_by (Conflict kept) index later = Err index

-- After a history of so many rows: the entries of further rows, or none where a row is that of no
-- entry.
abbrev pub history_after : ℕ → List Entry → List (Option Entry) → Result (List Entry) ℕ
history_after index history [] = Ok history
history_after index history (None ∷ rows) = Err index
history_after index history (Some e ∷ rows) =
    taken_by (admit history e.labels e.time e.point) index (history_after (index + 1) (history ++ e ∷ []) rows)

-- The history of these rows; or the index of the first bad one, which is the row of no entry, or is
-- not added to those before it.
abbrev pub history_of : List Row → Result (List Entry) ℕ
history_of rows = history_after 0 [] (map decoded rows)
