use Rattle.std.proofs.Common.{◌≡◌, cond, take}
use Rattle.std.specs.BTreeMap.{insert_entry}
use Rattle.pr_labels.specs.declared.pair.Pair.{Pair}
use Rattle.pr_labels.specs.Order.{labels_cmp}
use Rattle.pr_head.specs.private.Index.{has_label, listing_of}
use Rattle.pr_head.proofs.by_label.ByLabel.add_each.Given as goal

-- the series is listed under the labels so far
abbrev pub invariant-loop-label : goal.invariant-loop-label
invariant-loop-label l = (other : Pair)
    → listing_of l.self other ≡ cond (has_label other (take l.label-index l.pairs)) (insert_entry labels_cmp (listing_of l.fn.self other) l.labels l.number) (listing_of l.fn.self other)
