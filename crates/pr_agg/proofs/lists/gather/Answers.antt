use Rattle.std.proofs.Common.{◌≡◌, ◌+◌, ◌<◌, ap, sym, ◌∙◌, subst, List, [], ◌∷◌, ◌++◌, take, length, arith, Some, refl}
use Rattle.std.proofs.lemmas.List.{take_all, take_more}
use Rattle.indexmap.specs.IndexMap.{Updates, get}
use Rattle.pr_num.specs.declared.value.Num.{Num}
use Rattle.pr_window.specs.pr_labels.declared.pair.Pair.{Pair}
use Rattle.pr_window.specs.pr_labels.declared.item.Item.{Item}
use Rattle.pr_window.specs.pr_labels.Order.{labels_eq}
use Rattle.pr_window.specs.spec_vectors.Aggregation.{group_of}
use Rattle.pr_window.specs.private.Folding.{with_next}
use Rattle.pr_agg.specs.private.Lists.{alone, one_after_other}
use Rattle.pr_agg.specs.private.Parts.{AreGrouped}
use Rattle.pr_agg.proofs.Gathering.{grouped_more}
use Rattle.pr_agg.proofs.InOrder.{parts_in_order}
use Rattle.pr_agg.proofs.lists.gather.Goals as goal

pub loop-item-preserved : goal.loop-item-preserved
loop-item-preserved c =
    let vector = c.args.vector.now in
    let i = c.loop-item.item-index in
    let x = c.item-item.result in
    let m = c.loop-item.parts in
    let n = c.add_value.new.parts in
    let within : i < length vector = omega arith in
    let more : take (i + 1) vector ≡ take i vector ++ x ∷ [] = take_more vector i x within ∙ ap (λ (y : Item Num). take i vector ++ y ∷ []) (sym c.item-item.is) in
    rw more (grouped_more alone one_after_other (group_of c.args.by.now) (take i vector) x m n (with_next alone one_after_other (get labels_eq m (group_of c.args.by.now x)) x.value) refl
    (subst (λ (k : List Pair). Updates labels_eq m n k (Some (with_next alone one_after_other (get labels_eq m k) x.value))) c.in_ok-choose_group.ensures c.in_ok-add_value.ensures.updates)
    c.in_ok-add_value.ensures.unique c.loop-item.invariant)

pub returns : goal.returns
returns c =
    let vector = c.args.vector.now in
    let all : take c.loop-item.item-index vector ≡ vector = take_all c.loop-item.item-index vector (omega arith) in
    parts_in_order alone one_after_other (group_of c.args.by.now) vector c.loop-item.parts c.sort_groups.new.parts
    (subst (λ (front : List (Item Num)). AreGrouped alone one_after_other (group_of c.args.by.now) front c.loop-item.parts) all c.loop-item.invariant)
    c.sort_groups.ensures.same c.sort_groups.ensures.unique c.in_ok-sort_groups.ensures.sorted
