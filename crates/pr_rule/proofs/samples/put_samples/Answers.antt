use Rattle.std.proofs.Common.{List, [], ◌∷◌, take, sym, subst}
use Rattle.pr_ast.specs.pr_num.declared.value.Num.{Num}
use Rattle.pr_labels.specs.declared.item.Item.{Item}
use Rattle.spec_rules.specs.spec_history.Admission.{put_all}
use Rattle.pr_rule.specs.private.Written.{Writes, entries_of}
use Rattle.pr_eval.proofs.HeadIntakeIntake.{next_of, puts_if_none}
use Rattle.pr_rule.proofs.Writing.{writes_none, writes_then}
use Rattle.pr_rule.proofs.samples.put_samples.Goals as goal

pub loop-item-init : goal.loop-item-init
loop-item-init c = λ history h.
    writes_none c.args.at.now.tells c.args.head.now c.args.rows.now.items c.args.told.now.items c.args.wrote.now.items history c.args.at.now.time (puts_if_none c.args.at.now.tells c.args.head.now c.args.rows.now.items history h)

pub loop-item-preserved : goal.loop-item-preserved
loop-item-preserved c = λ history h.
    let i = c.loop-item.item-index in
    let front : List (Item Num) = take i c.args.items.now in
    let p = c.loop-item.invariant history h in
    subst (λ (l : List (Item Num)). Writes c.args.at.now.tells c.args.head.now c.put_sample.new.head c.args.rows.now.items c.put_sample.new.rows.items c.args.told.now.items c.put_sample.new.told.items c.args.wrote.now.items c.put_sample.new.wrote.items history c.args.at.now.time l)
    (sym (next_of c.args.items.now i c.item-item.result c.loop-item-test.true c.item-item.is))
    (writes_then c.args.at.now.tells c.args.head.now c.loop-item.head c.put_sample.new.head c.args.rows.now.items c.loop-item.rows.items c.put_sample.new.rows.items
    c.args.told.now.items c.loop-item.told.items c.put_sample.new.told.items c.args.wrote.now.items c.loop-item.wrote.items c.put_sample.new.wrote.items
    history c.args.at.now.time front (c.item-item.result ∷ []) p
    (c.in_ok-put_sample.ensures (put_all history (entries_of c.args.at.now.time front)) p.puts.taken.holds))
