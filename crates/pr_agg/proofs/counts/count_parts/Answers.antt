use Rattle.std.proofs.Common.{◌≡◌, ◌≤◌, ◌+◌, ◌<◌, ◌^◌, ap, sym, ◌∙◌, subst, List, [], ◌∷◌, ◌++◌, take, length, arith, Some}
use Rattle.std.proofs.lemmas.List.{take_all, take_more, length-take}
use Rattle.std.specs.Option.{unwrap_or}
use Rattle.indexmap.specs.IndexMap.{Updates, get}
use Rattle.pr_num.specs.declared.value.Num.{Num}
use Rattle.pr_window.specs.pr_labels.declared.pair.Pair.{Pair}
use Rattle.pr_window.specs.pr_labels.declared.item.Item.{Item}
use Rattle.pr_window.specs.pr_labels.Order.{labels_eq}
use Rattle.pr_window.specs.spec_vectors.Aggregation.{value_group}
use Rattle.pr_agg.specs.private.Counts.{as_many, both_parts, both_weigh, one_each, one_weighs_one}
use Rattle.pr_agg.specs.private.Parts.{AreGrouped}
use Rattle.pr_agg.proofs.Counting.{count_light, counted_next}
use Rattle.pr_agg.proofs.Gathering.{grouped_more, part_weight}
use Rattle.pr_agg.proofs.InOrder.{parts_in_order}
use Rattle.pr_agg.proofs.counts.count_parts.Goals as goal

pub count_one-requires : goal.count_one-requires
count_one-requires c =
    let vector = c.args.vector.now in
    let i = c.loop-item.item-index in
    let small : i + 1 < 2 ^ 64 = omega arith in
    let short : length (take i vector) ≤ i = omega (arith, length-take i vector) in
    count_light (get labels_eq c.loop-item.counts c.in_ok-group.group) (length (take i vector)) i short small
    (part_weight one_each both_parts as_many one_weighs_one both_weigh (value_group c.args.label.now c.args.by.now) (take i vector) c.loop-item.counts c.in_ok-group.group c.loop-item.invariant)

pub loop-item-preserved : goal.loop-item-preserved
loop-item-preserved c =
    let vector = c.args.vector.now in
    let i = c.loop-item.item-index in
    let x = c.item-item.result in
    let m = c.loop-item.counts in
    let n = c.count_one.new.counts in
    let key = value_group c.args.label.now c.args.by.now in
    let within : i < length vector = omega arith in
    let more : take (i + 1) vector ≡ take i vector ++ x ∷ [] = take_more vector i x within ∙ ap (λ (y : Item Num). take i vector ++ y ∷ []) (sym c.item-item.is) in
    let group : c.in_ok-group.group ≡ value_group c.args.label.now c.args.by.now x = c.in_ok-group.ensures in
    rw more (grouped_more one_each both_parts key (take i vector) x m n (unwrap_or (get labels_eq m (value_group c.args.label.now c.args.by.now x)) 0 + 1) (counted_next (get labels_eq m (value_group c.args.label.now c.args.by.now x)) x.value)
    (subst (λ (k : List Pair). Updates labels_eq m n k (Some (unwrap_or (get labels_eq m k) 0 + 1))) group c.in_ok-count_one.ensures.counted)
    c.in_ok-count_one.ensures.unique c.loop-item.invariant)

pub returns : goal.returns
returns c =
    let vector = c.args.vector.now in
    let key = value_group c.args.label.now c.args.by.now in
    let all : take c.loop-item.item-index vector ≡ vector = take_all c.loop-item.item-index vector (omega arith) in
    parts_in_order one_each both_parts key vector c.loop-item.counts c.sort_groups.new.parts
    (subst (λ (front : List (Item Num)). AreGrouped one_each both_parts key front c.loop-item.counts) all c.loop-item.invariant)
    c.sort_groups.ensures.same c.sort_groups.ensures.unique c.in_ok-sort_groups.ensures.sorted
