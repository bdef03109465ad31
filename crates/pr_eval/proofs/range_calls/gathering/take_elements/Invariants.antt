use Rattle.std.proofs.Common.{◌≡◌, ◌++◌, length, map, List}
use Rattle.std.specs.BTreeMap.{IsOrdered}
use Rattle.std.specs.Vec.Iter.{into_iter_items, into_iter_len}
use Rattle.pr_labels.specs.Order.{labels_cmp}
use Rattle.pr_labels.specs.declared.item.Item.{Item}
use Rattle.pr_range.specs.spec_history.declared.spot.Spot.{Spot}
use Rattle.pr_eval.specs.private.Taken.{IsGathered, item_at}
use Rattle.pr_eval.proofs.range_calls.gathering.take_elements.Given as goal

-- the elements so far are gathered
abbrev pub invariant-loop-item : goal.invariant-loop-item
invariant-loop-item l = record {
  gathered : (front : List (Item Spot)) → IsGathered front l.fn.series → IsGathered (front ++ map (item_at l.time) l.yielded) l.series;
  ordered : IsOrdered labels_cmp l.series;
  so_far : l.yielded ++ into_iter_items l.item-iterator ≡ into_iter_items l.initial.item-iterator;
  left : into_iter_len l.item-iterator ≡ length (into_iter_items l.item-iterator);
}
