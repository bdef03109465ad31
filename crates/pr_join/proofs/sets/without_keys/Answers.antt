use Rattle.std.proofs.Common.{◌≡◌, ◌∙◌, sym, subst, List, IfOk}
use Rattle.spec_vectors.specs.pr_num.declared.value.Num.{Num}
use Rattle.spec_vectors.specs.pr_labels.declared.item.Item.{Item}
use Rattle.pr_join.proofs.EmptySides.{all_wanted, none_wanted}
use Rattle.pr_join.proofs.sets.without_keys.Goals as goal

pub returns-then-wanted : goal.returns-then-wanted
returns-then-wanted c = λ how. c.new.ensures.items ∙ sym (none_wanted how c.args.wanted c.args.side.now c.if-wanted.true)

pub returns-else-wanted : goal.returns-else-wanted
returns-else-wanted c = λ how.
    subst (λ (xs : List (Item Num)). IfOk c.copies_of.result (λ v. v.items ≡ xs)) (sym (all_wanted how c.args.wanted c.args.side.now c.if-wanted.false)) c.copies_of.ensures
