use Rattle.std.proofs.Common.{◌≡◌, pos, w64, to_z, refl, inl}
use Rattle.std.proofs.lemmas.Int.{to_z_pos}
use Rattle.pr_keep_sql.proofs.RanLemmas.{has_loaded}
use Rattle.pr_keep_sql.proofs.RefusalLemmas.{load_refused}
use Rattle.pr_keep_sql.proofs.StateLemmas.{loaded}
use Rattle.pr_keep_sql.proofs.statements.load.Goals as goal

pub returns-in-Ok-clause-ok : goal.returns-in-Ok-clause-ok
returns-in-Ok-clause-ok g c clean keeps =
    let cast : to_z w64 c.args.seq ≡ pos c.args.seq = to_z_pos w64 c.args.seq c.requires.seq in
    loaded _ _ c.args.seq _ c.read_row.result (simp cast refl) (c.in-Ok.ensures.ok clean keeps) c.read_row.ensures.ok

pub returns-in-Err-clause-refused : goal.returns-in-Err-clause-refused
returns-in-Err-clause-refused g c clean want =
    let cast : to_z w64 c.args.seq ≡ pos c.args.seq = to_z_pos w64 c.args.seq c.requires.seq in
    inl (rw cast at (c.in-Err.ensures.runs clean))

pub returns-in-Ok-clause-refused : goal.returns-in-Ok-clause-refused
returns-in-Ok-clause-refused g c clean =
    let cast : to_z w64 c.args.seq ≡ pos c.args.seq = to_z_pos w64 c.args.seq c.requires.seq in
    load_refused g.S.Store c.args.seq c.in-Ok.found c.read_row.result c.args.conn.now c.find.new.conn (rw cast at (c.in-Ok.ensures.runs clean)) c.read_row.ensures.only

pub returns-in-Ok-clause-ran : goal.returns-in-Ok-clause-ran
returns-in-Ok-clause-ran g c clean =
    let cast : to_z w64 c.args.seq ≡ pos c.args.seq = to_z_pos w64 c.args.seq c.requires.seq in
    has_loaded g.S.Store c.args.seq c.in-Ok.found c.read_row.result c.args.conn.now c.find.new.conn (rw cast at (c.in-Ok.ensures.runs clean)) c.read_row.ensures.as_shown
