use Rattle.sqlite.specs.Held.{state}
use Rattle.pr_keep_sql.proofs.OpenedLemmas.{is_sound}
use Rattle.pr_keep_sql.proofs.opened.readied.Goals as goal

pub returns-in-Ok-clause-tells : goal.returns-in-Ok-clause-tells
returns-in-Ok-clause-tells g c sound =
    let is = is_sound c.ready.new.self.is_first (state g.S.Store c.ready.new.self.conn) sound in
    c.in-Ok.ensures.told is.1 is.0
