use Rattle.std.proofs.Common.{◌≡◌, ◌++◌, length, map}
use Rattle.std.specs.Vec.Iter.{into_iter_items, into_iter_len}
use Rattle.pr_eval.specs.private.Timed.{stamp_of}
use Rattle.pr_eval.proofs.values.times.times_of.Given as goal

-- the elements so far, and those to come
abbrev pub invariant-loop-item : goal.invariant-loop-item
invariant-loop-item l = record {
  so_far : l.times.items ++ map stamp_of (into_iter_items l.item-iterator) ≡ map stamp_of (into_iter_items l.initial.item-iterator);
  left : into_iter_len l.item-iterator ≡ length (into_iter_items l.item-iterator);
}
