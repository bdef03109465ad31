use Rattle.std.proofs.Common.{◌≡◌, sym, subst, List, IfOk}
use Rattle.spec_vectors.specs.pr_num.declared.value.Num.{Num}
use Rattle.spec_vectors.specs.pr_labels.declared.item.Item.{Item}
use Rattle.pr_join.specs.private.Sets.{with_match}
use Rattle.pr_join.proofs.EmptySides.{empty_side}
use Rattle.pr_join.proofs.sets.with_match.Goals as goal

pub returns-then-is_empty-2 : goal.returns-then-is_empty-2
returns-then-is_empty-2 c =
    let how = c.args.how.now in
    subst (λ (other : List (Item Num)). IfOk c.without_keys.result (λ v. v.items ≡ with_match how other c.args.wanted c.args.side.now)) (sym (empty_side c.args.other.now c.if-is_empty-2.ensures)) (c.without_keys.ensures how)
