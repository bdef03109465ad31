use Rattle.std.proofs.Common.{◌≡◌, pos, not, unsigned_abs, rules, FitsSigned, w64, ap, ◌∙◌}
use Rattle.std.proofs.lemmas.Int.{to_z-of_z}
use Rattle.sqlite.specs.Held.{state}
use Rattle.pr_keep_sql.proofs.StateLemmas.{found_at, lasts_by, row_open, row_same, row_shows}
use Rattle.pr_keep_sql.proofs.statements.find.Goals as goal

pub returns-clause-ok : goal.returns-clause-ok
returns-clause-ok g c clean =
    let old = state g.S.Store c.args.conn.now in
    let new = state g.S.Store c.query_row.new.self in
    let seq : c.args.seq ≡ pos (unsigned_abs c.args.seq) = search (rules, c.requires.seq) in
    let fits : FitsSigned w64 c.args.seq = c.ranges.seq in
    found_at old new (unsigned_abs c.args.seq) c.query_row.result (rw (c.params-to_sql.ensures, to_z-of_z w64 c.args.seq fits, seq) at (c.query_row.ensures.row clean))

pub returns-clause-was_open : goal.returns-clause-was_open
returns-clause-was_open g c clean =
    row_open _ (state g.S.Store c.args.conn.now) (state g.S.Store c.query_row.new.self) c.query_row.result (c.is_autocommit.ensures.settled (c.is_autocommit.ensures.value ∙ ap not c.requires.mode)) (c.query_row.ensures.row clean)

pub returns-clause-same : goal.returns-clause-same
returns-clause-same g c clean =
    row_same _ (state g.S.Store c.args.conn.now) (state g.S.Store c.query_row.new.self) c.query_row.result (c.is_autocommit.ensures.settled (c.is_autocommit.ensures.value ∙ ap not c.requires.mode)) (c.query_row.ensures.row clean)

pub returns-clause-open : goal.returns-clause-open
returns-clause-open g c clean = row_shows _ (state g.S.Store c.args.conn.now) (state g.S.Store c.query_row.new.self) c.query_row.result (c.query_row.ensures.row clean)

pub returns-clause-runs : goal.returns-clause-runs
returns-clause-runs g c clean =
    let seq : c.args.seq ≡ pos (unsigned_abs c.args.seq) = search (rules, c.requires.seq) in
    let fits : FitsSigned w64 c.args.seq = c.ranges.seq in
    rw (c.params-to_sql.ensures, to_z-of_z w64 c.args.seq fits, seq) at (c.query_row.ensures.row clean)

pub returns-clause-lasts : goal.returns-clause-lasts
returns-clause-lasts g c = lasts_by (state g.S.Store c.args.conn.now) (state g.S.Store c.query_row.new.self) _ c.query_row.ensures.survives
