-- What a commit and a load have done with a store, whatever stands beside its tables.
use Rattle.std.specs.Prelude.{◌≡◌, ◌≢◌, ℕ, List, IsTrue, Result, IfOk, OnOk, OnErr}
use Rattle.sqlite.specs.Held.{state}
use Rattle.sqlite.specs.State.{HasCleanDisk}
use Rattle.sqlite.specs.Store.{Ghosts}
use Rattle.pr_outside.specs.declared.keeping.KeepError.{KeepError}
use Rattle.pr_outside.specs.spec_history.declared.row.Row.{Row}
use Rattle.pr_keep_sql.specs.private.Counts.{AreWithin, CountsOnce}
use Rattle.pr_keep_sql.specs.private.Ran.{HasLoaded, HasRun}
use Rattle.pr_keep_sql.specs.private.Refusals.{IsLoadRefused, IsRefusal, IsTransactionRefused}
use Rattle.pr_keep_sql.specs.private.Statements.{Leaves}
use Rattle.pr_keep_sql.specs.private.Store.{KeptStore}
use Rattle.pr_keep_sql.specs.private.Texts.{inserts}

module _ {S : Type 0} (g : Ghosts S) where
  -- One transaction inserts the rows with the next numbers, or the database is as it was. A refusal
  -- counts one: of a statement that was refused, or of rows that the tables do not hold.
  pub record HasCommitted {T : Type 0} (added : List Row) (result : Result T KeepError) (old new : KeptStore S) : Type 0 where
    pub ran : HasCleanDisk (state g new.conn) → OnOk result (HasRun g (inserts old.size added) old.conn new.conn)
    pub left : HasCleanDisk (state g new.conn) → OnErr result (Leaves (state g old.conn) (state g new.conn))
    pub once : CountsOnce old.refused old.odd new.refused new.odd result
    pub odd : IsTrue old.is_ready → AreWithin old.size added → new.odd ≡ old.odd
    pub refused : HasCleanDisk (state g new.conn) → new.refused ≢ old.refused → IsRefusal (λ e. IsTransactionRefused g (inserts old.size added) e old.conn new.conn)

  -- One query shows the row, and the database is as it was. A refusal counts one, of the query.
  pub record HasQueried (index : ℕ) (result : Result Row KeepError) (old new : KeptStore S) : Type 0 where
    pub ran : HasCleanDisk (state g new.conn) → IfOk result (λ row. HasLoaded g index row old.conn new.conn)
    pub left : HasCleanDisk (state g new.conn) → Leaves (state g old.conn) (state g new.conn)
    pub once : CountsOnce old.refused old.odd new.refused new.odd result
    pub odd : new.odd ≡ old.odd
    pub refused : HasCleanDisk (state g new.conn) → new.refused ≢ old.refused → IsRefusal (λ e. IsLoadRefused g index e old.conn new.conn)
