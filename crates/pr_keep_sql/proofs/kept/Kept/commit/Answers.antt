use Rattle.sqlite.specs.Held.{state}
use Rattle.pr_keep_sql.proofs.KeptLemmas.{appends, keeps, stays_told}
use Rattle.pr_keep_sql.proofs.kept.Kept.commit.Goals as goal

pub returns-in-Ok-clause-ok : goal.returns-in-Ok-clause-ok
returns-in-Ok-clause-ok g c =
    rw (← c.self.view_is) (appends c.self.inside.is_first (state g.S.Store c.self.inside.conn) (state g.S.Store c.add_all.new.conn) c.self.inside.size c.self.invariant.still c.add_all.ensures.clean
    c.args.added.now c.in-Ok.ensures.ok)

pub returns-in-Err-clause-err : goal.returns-in-Err-clause-err
returns-in-Err-clause-err g c =
    rw (← c.self.view_is) (keeps c.self.inside.is_first (state g.S.Store c.self.inside.conn) (state g.S.Store c.add_all.new.conn) c.self.inside.size c.self.invariant.still c.add_all.ensures.clean
    (λ clean. (c.in-Err.ensures.err clean).was_open) (λ clean. (c.in-Err.ensures.err clean).now))

pub returns-in-Ok-clause-ran : goal.returns-in-Ok-clause-ran
returns-in-Ok-clause-ran g c = rw (← c.self.view_is) (λ clean. c.in-Ok.ensures.ran clean)

pub returns-in-Ok-clause-stays : goal.returns-in-Ok-clause-stays
returns-in-Ok-clause-stays g c =
    rw (← c.self.view_is) (stays_told c.self.inside.is_first (state g.S.Store c.self.inside.conn) (state g.S.Store c.add_all.new.conn) c.add_all.ensures.lasts)

pub returns-in-Err-clause-stays : goal.returns-in-Err-clause-stays
returns-in-Err-clause-stays g c =
    rw (← c.self.view_is) (stays_told c.self.inside.is_first (state g.S.Store c.self.inside.conn) (state g.S.Store c.add_all.new.conn) c.add_all.ensures.lasts)
