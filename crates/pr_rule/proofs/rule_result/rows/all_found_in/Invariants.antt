use Rattle.std.proofs.Common.{◌≡◌, ◌++◌, length, map}
use Rattle.std.specs.Vec.Iter.{into_iter_items, into_iter_len}
use Rattle.pr_rule.specs.private.Rows.{found_in}
use Rattle.pr_rule.proofs.rule_result.rows.all_found_in.Given as goal

-- the elements so far, and those to come
abbrev pub invariant-loop-item : goal.invariant-loop-item
invariant-loop-item l = record {
  so_far : l.founds.items ++ map found_in (into_iter_items l.item-iterator) ≡ map found_in (into_iter_items l.initial.item-iterator);
  left : into_iter_len l.item-iterator ≡ length (into_iter_items l.item-iterator);
}
