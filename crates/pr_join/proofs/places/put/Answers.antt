use Rattle.std.proofs.Common.{sym, ◌∙◌}
use Rattle.pr_join.proofs.Placing.{placed_again, placed_alone}
use Rattle.pr_join.proofs.places.put.Goals as goal

pub returns-in_ok-insert : goal.returns-in_ok-insert
returns-in_ok-insert c =
    placed_again c.args.how.now c.args.item.now c.args.index c.args.places.now c.insert.new.self c.insert-in-Some.new.self c.in_ok-chosen_key.field-0 c.in_ok-chosen_key-2.field-0 c.in-Some.first
    c.in_ok-chosen_key.ensures c.in_ok-chosen_key-2.ensures (sym c.in-Some.is ∙ c.in_ok-first.ensures.old)
    c.in_ok-first.ensures.updates c.in_ok-insert.ensures.updates c.insert-in-Some.ensures.unique

pub returns-in_default : goal.returns-in_default
returns-in_default c =
    placed_alone c.args.how.now c.args.item.now c.args.index c.args.places.now c.insert.new.self c.in_ok-chosen_key.field-0 c.in_ok-chosen_key.ensures (sym c.in_default.is ∙ c.in_ok-first.ensures.old)
    c.in_ok-first.ensures.updates c.insert.ensures.unique
