use Rattle.std.proofs.Common.{◌≡◌, pos, unsigned_abs, rules, arith, FitsSigned, w64}
use Rattle.std.proofs.lemmas.Int.{to_z-of_z}
use Rattle.sqlite.specs.Held.{state}
use Rattle.sqlite.specs.State.{HasCleanDisk}
use Rattle.pr_outside.specs.spec_history.declared.row.Row.{Row}
use Rattle.pr_keep_sql.proofs.StateLemmas.{adds_inside, keeps_inside, lasts_by}
use Rattle.pr_keep_sql.proofs.statements.insert.Goals as goal

pub returns-clause-ok : goal.returns-clause-ok
returns-clause-ok g c clean =
    let old = state g.S.Store c.args.tx.now.conn.now in
    let new = state g.S.Store c.execute.new.self.conn.now in
    let early : HasCleanDisk old = omega (arith, c.execute.ensures.survives.clean, clean) in
    let e : Row = record { series = c.args.series.now; time = unsigned_abs c.args.time; point = c.args.point.now } in
    let seq : c.args.seq ≡ pos (unsigned_abs c.args.seq) = search (rules, c.requires.seq) in
    let time : c.args.time ≡ pos (unsigned_abs c.args.time) = search (rules, c.requires.time) in
    let seq_fits : FitsSigned w64 c.args.seq = c.ranges.seq in
    let time_fits : FitsSigned w64 c.args.time = c.ranges.time in
    let ran = rw (c.params-to_sql.ensures, c.params-to_sql-2.ensures, c.params-to_sql-3.ensures, c.params-to_sql-4.ensures, to_z-of_z w64 c.args.seq seq_fits, to_z-of_z w64 c.args.time time_fits) at (c.execute.ensures.runs clean (c.requires.inside early)) in
    adds_inside old new (unsigned_abs c.args.seq) e c.execute.result (rw seq at (rw time at ran))

pub returns-clause-kept : goal.returns-clause-kept
returns-clause-kept g c clean =
    let old = state g.S.Store c.args.tx.now.conn.now in
    let new = state g.S.Store c.execute.new.self.conn.now in
    let early : HasCleanDisk old = omega (arith, c.execute.ensures.survives.clean, clean) in
    keeps_inside _ _ old new c.execute.result (c.execute.ensures.runs clean (c.requires.inside early))

pub returns-clause-runs : goal.returns-clause-runs
returns-clause-runs g c clean =
    let old = state g.S.Store c.args.tx.now.conn.now in
    let new = state g.S.Store c.execute.new.self.conn.now in
    let early : HasCleanDisk old = omega (arith, c.execute.ensures.survives.clean, clean) in
    let seq : c.args.seq ≡ pos (unsigned_abs c.args.seq) = search (rules, c.requires.seq) in
    let time : c.args.time ≡ pos (unsigned_abs c.args.time) = search (rules, c.requires.time) in
    let seq_fits : FitsSigned w64 c.args.seq = c.ranges.seq in
    let time_fits : FitsSigned w64 c.args.time = c.ranges.time in
    let ran = rw (c.params-to_sql.ensures, c.params-to_sql-2.ensures, c.params-to_sql-3.ensures, c.params-to_sql-4.ensures, to_z-of_z w64 c.args.seq seq_fits, to_z-of_z w64 c.args.time time_fits) at (c.execute.ensures.runs clean (c.requires.inside early)) in
    rw seq at (rw time at ran)

pub returns-clause-lasts : goal.returns-clause-lasts
returns-clause-lasts g c = lasts_by (state g.S.Store c.args.tx.now.conn.now) (state g.S.Store c.execute.new.self.conn.now) _ c.execute.ensures.survives
