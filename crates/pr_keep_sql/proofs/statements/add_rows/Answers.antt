use Rattle.std.proofs.Common.{arith, ◌∙◌}
use Rattle.sqlite.specs.Held.{state}
use Rattle.sqlite.specs.State.{HasCleanDisk}
use Rattle.pr_keep_sql.proofs.RefusalLemmas.{added_next, adding_stopped, adds_next, commits_on}
use Rattle.pr_keep_sql.proofs.StateLemmas.{lasts_then}
use Rattle.pr_keep_sql.proofs.statements.add_rows.Goals as goal

pub returns-in-Err-clause-stopped : goal.returns-in-Err-clause-stopped
returns-in-Err-clause-stopped g c clean =
    let mid : HasCleanDisk (state g.S.Store c.rows.tx.conn.now) = omega (arith, c.add.ensures.clean, clean) in
    adding_stopped g.S.Store c.args.size c.rows.row-index c.rows.seq c.args.rows.now c.row-item.result c.in-Err.error c.args.tx.now.conn.now c.rows.tx.conn.now c.add.new.tx.conn.now
    (omega (arith, c.rows-test.true)) c.row-item.is c.rows.invariant.1 (c.rows.invariant.4 mid) (c.in-Err.ensures.runs clean)

pub rows-preserved : goal.rows-preserved
rows-preserved g c =
    let old = state g.S.Store c.args.tx.now.conn.now in
    let now = state g.S.Store c.rows.tx.conn.now in
    let next = state g.S.Store c.add.new.tx.conn.now in
    let early : HasCleanDisk next → HasCleanDisk now = λ clean. omega (arith, c.add.ensures.clean, clean) in (
      c.add.ensures.reference ∙ c.rows.invariant.0,
      omega (arith, c.rows.invariant.1),
      omega (arith, c.rows.invariant.2, c.add.ensures.clean),
      λ clean. (c.in-Ok.ensures.ok clean).inside,
      λ clean. added_next g.S.Store c.args.size c.rows.row-index c.rows.seq c.args.rows.now c.row-item.result c.args.tx.now.conn.now c.rows.tx.conn.now c.add.new.tx.conn.now c.in-Ok.field-0
          (omega (arith, c.rows-test.true)) c.row-item.is c.rows.invariant.1 (c.rows.invariant.4 (early clean)) (c.in-Ok.ensures.runs clean),
      lasts_then old now next c.add.ensures.clean c.rows.invariant.5 c.add.ensures.lasts,
      λ clean. commits_on old now next (c.rows.invariant.6 (early clean)) (c.add.ensures.kept clean),
      λ clean up.
          let goes = c.in-Ok.ensures.ok clean in
          let before = c.rows.invariant.7 (early clean) goes.was_open in
          (before.0, adds_next c.args.size c.rows.row-index c.rows.seq c.args.rows.now c.row-item.result old.now now.now next.now (omega (arith, c.rows-test.true)) c.row-item.is c.rows.invariant.1 before.1 goes.does),
    )
