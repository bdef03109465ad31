use Rattle.std.proofs.Common.{◌≡◌, false, drop}
use Rattle.std.specs.BTreeMap.{is_at}
use Rattle.std.specs.Map.{remove_entry}
use Rattle.pr_labels.specs.declared.pair.Pair.{Pair}
use Rattle.pr_labels.specs.Order.{labels_cmp}
use Rattle.pr_head.specs.private.Index.{Numbered, has_label, listing_of}
use Rattle.pr_head.proofs.by_label.ByLabel.remove_each.Given as goal

-- where no label is left the series is gone
abbrev pub invariant-loop-label : goal.invariant-loop-label
invariant-loop-label l =
    (before : Pair → Numbered)
    → ((other : Pair) → remove_entry (is_at (labels_cmp l.labels)) (before other) ≡ before other)
    → ((other : Pair) → remove_entry (is_at (labels_cmp l.labels)) (listing_of l.fn.self other) ≡ before other)
    → ((other : Pair) → has_label other l.pairs ≡ false → listing_of l.fn.self other ≡ before other)
    → (other : Pair) → (remove_entry (is_at (labels_cmp l.labels)) (listing_of l.self other) ≡ before other) × (has_label other (drop l.label-index l.pairs) ≡ false → listing_of l.self other ≡ before other)
