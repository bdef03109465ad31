-- When a statement of the store was refused. Want of memory is no refusal.
use Rattle.std.specs.Prelude.{◌≡◌, ◌≢◌, ◌⊎◌, ℕ, ◌≤◌, pos, IsUtf8, true, false, List, [], ◌∷◌, ◌++◌, Ok, Err}
use Rattle.sqlite.specs.declared.types.Value.TheVariants.{Int}
use Rattle.sqlite.specs.declared.error.Error.{Error}
use Rattle.sqlite.specs.Held.{Held, state}
use Rattle.sqlite.specs.Order.{Row as Cells}
use Rattle.sqlite.specs.State.{ExecutesInside, FailsToQuery, IsRolledBack, QueriesRow, Shown}
use Rattle.sqlite.specs.Steps.{FailsToCommit}
use Rattle.sqlite.specs.Store.{Ghosts}
use Rattle.pr_outside.specs.spec_history.declared.row.Row.{Row}
use Rattle.pr_keep_sql.specs.private.Counts.{is_want}
use Rattle.pr_keep_sql.specs.private.Statements.{shown}
use Rattle.pr_keep_sql.specs.private.Texts.{Order, numbers_text, rows_text, select_text}

module _ {S : Type 0} (g : Ghosts S) where
  -- the statements ran in turn inside a transaction
  abbrev pub RanInTurn : List Order → Held S → Held S → Type 0
  RanInTurn [] old new = new ≡ old
  RanInTurn (one ∷ rest) old new = (mid : Held S) × (count : ℕ) × ExecutesInside 0 one.sql one.params (state g old) (state g mid) (Ok count) × RanInTurn rest mid new

  -- the statements ran in turn up to one, which was refused
  pub record IsStopped (orders : List Order) (error : Error) (old last : Held S) : Type 0 where
    pub front : List Order
    pub one : Order
    pub rest : List Order
    pub split : orders ≡ front ++ one ∷ rest
    pub mid : Held S
    pub ran : RanInTurn front old mid
    pub runs : ExecutesInside 0 one.sql one.params (state g mid) (state g last) (Err error)

  -- Of a transaction over these statements one was refused, which rolled it back; no fault of the
  -- disk is forgotten. Or all ran, and the commit was refused.
  pub record IsTransactionRefused (orders : List Order) (error : Error) (old new : Held S) : Type 0 where
    pub last : Held S
    pub refused : (IsStopped orders error (record old { in_transaction = true }) last × IsRolledBack (state g last) (state g new) × ((state g last).faults ≤ (state g new).faults))
        ⊎ (RanInTurn orders (record old { in_transaction = true }) last × FailsToCommit (state g last) (state g new) error)

  -- the query for the number was refused, or after it that for the rows
  abbrev pub IsReadingRefused : Error → Held S → Held S → Type 0
  IsReadingRefused error old new =
      FailsToQuery numbers_text [] (state g old) (state g new) error
      ⊎ ((mid : Held S) × (rows : List Cells) × Shown numbers_text [] (state g old) (state g mid) rows × FailsToQuery rows_text [] (state g mid) (state g new) error)

  -- the query for a row was refused, or what it shows is no row of texts in UTF-8
  abbrev pub IsLoadRefused : ℕ → Error → Held S → Held S → Type 0
  IsLoadRefused seq error old new =
      QueriesRow select_text (Int (pos seq) ∷ []) (state g old) (state g new) (Err error)
      ⊎ ((cells : Cells) × QueriesRow select_text (Int (pos seq) ∷ []) (state g old) (state g new) (Ok cells) × ((row : Row) → IsUtf8 row.series → IsUtf8 row.point → cells ≢ shown row))

-- for a cause that is not want of memory
pub record IsRefusal (Refuses : Error → Type 0) : Type 0 where
  pub error : Error
  pub counted : is_want error ≡ false
  pub refused : Refuses error
