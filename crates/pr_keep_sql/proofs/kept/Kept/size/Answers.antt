use Rattle.sqlite.specs.Held.{state}
use Rattle.pr_keep_sql.proofs.KeptLemmas.{told_size}
use Rattle.pr_keep_sql.proofs.kept.Kept.size.Goals as goal

pub returns-clause-rows : goal.returns-clause-rows
returns-clause-rows g c = rw (← c.self.view_is) (told_size c.self.inside.is_first (state g.S.Store c.self.inside.conn) c.self.inside.size c.self.invariant.still)
