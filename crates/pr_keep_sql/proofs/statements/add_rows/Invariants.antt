use Rattle.std.proofs.Common.{◌≡◌, ◌+◌, ◌≤◌, take, IsTrue}
use Rattle.sqlite.specs.State.{HasCleanDisk, KeepsCommit}
use Rattle.sqlite.specs.Held.{state}
use Rattle.sqlite.specs.View.{doubt}
use Rattle.pr_keep_sql.specs.private.Kept.{WhileOpen}
use Rattle.pr_keep_sql.specs.private.Refusals.{RanInTurn}
use Rattle.pr_keep_sql.specs.private.Statements.{Adds, Lasts}
use Rattle.pr_keep_sql.specs.private.Texts.{inserts}
use Rattle.pr_keep_sql.proofs.statements.add_rows.Given as goal

abbrev pub invariant-rows : goal.invariant-rows
invariant-rows g l =
    let old = state g.S.Store l.fn.tx.conn.now in
    let now = state g.S.Store l.tx.conn.now in
    (l.tx.conn.ghost_name ≡ l.fn.tx.conn.ghost_name) × (l.seq ≡ l.size + l.row-index) × (doubt old.is_clean ≤ doubt now.is_clean) × (HasCleanDisk now → IsTrue now.in_transaction)
    × (HasCleanDisk now → RanInTurn g.S.Store (inserts l.size (take l.row-index l.rows)) l.fn.tx.conn.now l.tx.conn.now)
    × Lasts old now × (HasCleanDisk now → KeepsCommit old now) × WhileOpen now (IsTrue old.is_open × Adds l.size (take l.row-index l.rows) old.now now.now)
