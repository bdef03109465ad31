use Rattle.std.proofs.Common.{◌≡◌, ◌≤◌, ◌+◌, ◌<◌, ◌^◌, ap, sym, ◌∙◌, subst, List, [], ◌∷◌, ◌++◌, take, length, arith, refl, Some}
use Rattle.std.proofs.lemmas.List.{take_all, take_more, length-take}
use Rattle.indexmap.specs.IndexMap.{Updates, get}
use Rattle.pr_num.specs.declared.value.Num.{Num}
use Rattle.pr_window.specs.pr_labels.declared.pair.Pair.{Pair}
use Rattle.pr_window.specs.pr_labels.declared.item.Item.{Item}
use Rattle.pr_window.specs.pr_labels.Order.{labels_eq}
use Rattle.pr_window.specs.spec_vectors.Aggregation.{group_of}
use Rattle.pr_window.specs.private.Folding.{with_next}
use Rattle.pr_agg.proofs.Gathering.{grouped_more, light, part_weight}
use Rattle.pr_agg.proofs.InOrder.{parts_in_order}
use Rattle.pr_agg.specs.private.Parts.{AreGrouped}
use Rattle.pr_agg.proofs.parts.fold_parts.Goals as goal

pub add_value-requires-clause-light : goal.add_value-requires-clause-light
add_value-requires-clause-light g c =
    let vector = c.args.vector.now in
    let i = c.loop-item.item-index in
    let small : i + 1 < 2 ^ 64 = omega arith in
    let short : length (take i vector) ≤ i = omega (arith, length-take i vector) in
    light g.M.Fold.weight (get labels_eq c.loop-item.parts c.choose_group.new.group) (length (take i vector)) i short small
    (part_weight g.M.Fold.lift g.M.Fold.combine g.M.Fold.weight g.M.Fold.lifted g.M.Fold.combined (group_of c.args.by.now) (take i vector) c.loop-item.parts c.choose_group.new.group c.loop-item.invariant)

pub loop-item-preserved : goal.loop-item-preserved
loop-item-preserved g c =
    let vector = c.args.vector.now in
    let i = c.loop-item.item-index in
    let x = c.item-item.result in
    let m = c.loop-item.parts in
    let n = c.add_value.new.parts in
    let lift = g.M.Fold.lift in
    let combine = g.M.Fold.combine in
    let within : i < length vector = omega arith in
    let more : take (i + 1) vector ≡ take i vector ++ x ∷ [] = take_more vector i x within ∙ ap (λ (y : Item Num). take i vector ++ y ∷ []) (sym c.item-item.is) in
    rw more (grouped_more lift combine (group_of c.args.by.now) (take i vector) x m n (with_next lift combine (get labels_eq m (group_of c.args.by.now x)) x.value) refl
    (subst (λ (k : List Pair). Updates labels_eq m n k (Some (with_next lift combine (get labels_eq m k) x.value))) c.in_ok-choose_group.ensures c.in_ok-add_value.ensures.updates)
    c.in_ok-add_value.ensures.unique c.loop-item.invariant)

pub returns : goal.returns
returns g c =
    let lift = g.M.Fold.lift in
    let combine = g.M.Fold.combine in
    let vector = c.args.vector.now in
    let all : take c.loop-item.item-index vector ≡ vector = take_all c.loop-item.item-index vector (omega arith) in
    parts_in_order lift combine (group_of c.args.by.now) vector c.loop-item.parts c.sort_groups.new.parts
    (subst (λ (front : List (Item Num)). AreGrouped lift combine (group_of c.args.by.now) front c.loop-item.parts) all c.loop-item.invariant)
    c.sort_groups.ensures.same c.sort_groups.ensures.unique c.in_ok-sort_groups.ensures.sorted
