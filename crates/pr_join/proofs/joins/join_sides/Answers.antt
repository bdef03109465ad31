use Rattle.std.proofs.Common.{sym, ◌∙◌}
use Rattle.pr_join.proofs.Pairing.{sides_fault, sides_kept, sides_shared}
use Rattle.pr_join.proofs.joins.join_sides.Goals as goal

pub returns-in-Some-clause-joined : goal.returns-in-Some-clause-joined
returns-in-Some-clause-joined g c = λ f a.
    sides_shared c.args.how.now c.args.keep_name f c.args.manys.now c.args.ones.now c.in-Some.key c.if-is_empty.ensures (sym c.in-Some.is ∙ c.in_ok-key.ensures)

pub returns-clause-joined : goal.returns-clause-joined
returns-clause-joined g c = λ f a.
    sides_fault c.args.how.now c.args.keep_name f c.args.manys.now c.args.ones.now c.in-Err.fault c.if-is_empty.ensures (sym c.in_default.is ∙ c.in_ok-key.ensures) (c.in-Err.ensures f a)

pub returns-in-Ok-clause-joined : goal.returns-in-Ok-clause-joined
returns-in-Ok-clause-joined g c = λ f a.
    sides_kept c.args.how.now c.args.keep_name f c.args.manys.now c.args.ones.now c.in-Ok.rows c.in_ok-into_items-in-Ok.field-0.items c.if-is_empty.ensures (sym c.in_default.is ∙ c.in_ok-key.ensures) (c.in-Ok.ensures f a) c.in_ok-into_items-in-Ok.ensures.items
