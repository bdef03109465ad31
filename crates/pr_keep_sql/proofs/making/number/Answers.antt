use Rattle.std.proofs.Common.{arith}
use Rattle.sqlite.specs.Held.{state}
use Rattle.sqlite.specs.State.{HasCleanDisk}
use Rattle.pr_keep_sql.specs.private.Statements.{Numbers}
use Rattle.pr_keep_sql.specs.private.Texts.{number_text}
use Rattle.pr_keep_sql.proofs.MakingLemmas.{goes_on, numbers}
use Rattle.pr_keep_sql.proofs.StateLemmas.{keeps_inside}
use Rattle.pr_keep_sql.proofs.making.number.Goals as goal

pub returns-clause-ok : goal.returns-clause-ok
returns-clause-ok g c clean =
    let old = state g.S.Store c.args.tx.now.conn.now in
    let new = state g.S.Store c.execute.new.self.conn.now in
    let early : HasCleanDisk old = omega (arith, c.execute.ensures.survives.clean, clean) in
    goes_on Numbers number_text old new c.execute.result (numbers old new) (c.execute.ensures.runs clean (c.requires early))

pub returns-clause-kept : goal.returns-clause-kept
returns-clause-kept g c clean =
    let old = state g.S.Store c.args.tx.now.conn.now in
    let new = state g.S.Store c.execute.new.self.conn.now in
    let early : HasCleanDisk old = omega (arith, c.execute.ensures.survives.clean, clean) in
    keeps_inside _ _ old new c.execute.result (c.execute.ensures.runs clean (c.requires early))

pub returns-clause-runs : goal.returns-clause-runs
returns-clause-runs g c clean =
    let old = state g.S.Store c.args.tx.now.conn.now in
    let early : HasCleanDisk old = omega (arith, c.execute.ensures.survives.clean, clean) in
    c.execute.ensures.runs clean (c.requires early)
