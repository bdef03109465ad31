use Rattle.sqlite.specs.Held.{state}
use Rattle.pr_keep_sql.specs.private.Refusals.{IsLoadRefused}
use Rattle.pr_keep_sql.proofs.RefusalLemmas.{counted_refusal}
use Rattle.pr_keep_sql.proofs.KeptLemmas.{keeps, some_told, stays_told, told_row}
use Rattle.pr_keep_sql.proofs.kept.Kept.load.Goals as goal

pub returns-in-Ok-clause-row : goal.returns-in-Ok-clause-row
returns-in-Ok-clause-row g c =
    told_row c.self.inside.is_first (state g.S.Store c.self.inside.conn) (state g.S.Store c.load.new.conn) c.self.inside.size c.self.invariant.still c.load.ensures.clean
    c.load.ensures.was_open c.load.ensures.same c.args.index c.in-Ok.row c.in-Ok.ensures.ok

pub returns-in-Ok-clause-same : goal.returns-in-Ok-clause-same
returns-in-Ok-clause-same g c =
    rw (← c.self.view_is) (keeps c.self.inside.is_first (state g.S.Store c.self.inside.conn) (state g.S.Store c.load.new.conn) c.self.inside.size c.self.invariant.still c.load.ensures.clean
    c.load.ensures.was_open c.load.ensures.same)

pub returns-in-Err-clause-same : goal.returns-in-Err-clause-same
returns-in-Err-clause-same g c =
    rw (← c.self.view_is) (keeps c.self.inside.is_first (state g.S.Store c.self.inside.conn) (state g.S.Store c.load.new.conn) c.self.inside.size c.self.invariant.still c.load.ensures.clean
    c.load.ensures.was_open c.load.ensures.same)

pub returns-in-Ok-clause-told : goal.returns-in-Ok-clause-told
returns-in-Ok-clause-told g c clean first =
    some_told c.self.inside.is_first (state g.S.Store c.load.new.conn) clean
    (c.in-Ok.ensures.open clean).1
    (rw (← c.self.view_is) at first)

pub returns-in-Err-clause-refused : goal.returns-in-Err-clause-refused
returns-in-Err-clause-refused g c clean =
    rw (← c.self.view_is) (counted_refusal (λ e. IsLoadRefused g.S.Store c.args.index e c.self.inside.conn c.load.new.conn) c.in-Err.error c.refusal.result c.self.inside.refused c.refusal.new.refused c.refusal.ensures
    (c.in-Err.ensures.refused clean))

pub returns-in-Ok-clause-stays : goal.returns-in-Ok-clause-stays
returns-in-Ok-clause-stays g c =
    rw (← c.self.view_is) (stays_told c.self.inside.is_first (state g.S.Store c.self.inside.conn) (state g.S.Store c.load.new.conn) c.load.ensures.lasts)

pub returns-in-Err-clause-stays : goal.returns-in-Err-clause-stays
returns-in-Err-clause-stays g c =
    rw (← c.self.view_is) (stays_told c.self.inside.is_first (state g.S.Store c.self.inside.conn) (state g.S.Store c.load.new.conn) c.load.ensures.lasts)

pub returns-in-Ok-clause-left : goal.returns-in-Ok-clause-left
returns-in-Ok-clause-left g c =
    rw (← c.self.view_is) (λ clean. record { was_open = c.load.ensures.was_open clean; now = c.load.ensures.same clean })

pub returns-in-Err-clause-left : goal.returns-in-Err-clause-left
returns-in-Err-clause-left g c =
    rw (← c.self.view_is) (λ clean. record { was_open = c.load.ensures.was_open clean; now = c.load.ensures.same clean })
