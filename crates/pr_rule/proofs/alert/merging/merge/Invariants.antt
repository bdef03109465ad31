use Rattle.std.proofs.Common.{◌≡◌, ◌+◌, ◌≤◌, ◌++◌}
use Rattle.std.specs.VecDeque.{deque_len}
use Rattle.std.specs.Prelude.{vec_len, vec_capacity}
use Rattle.pr_rule.specs.private.Merging.{merged, moment}
use Rattle.pr_rule.proofs.alert.merging.merge.Given as goal

abbrev pub invariant-merging : goal.invariant-merging
invariant-merging l = record {
  merged : l.out.items ++ merged (moment l.now l.hold l.keep) l.elements.items l.rest.items
      ≡ l.fn.out.items ++ merged (moment l.fn.now l.fn.hold l.fn.keep) l.fn.found.items l.fn.old.items;
  room : vec_len l.out + (deque_len l.rest + deque_len l.elements) ≤ vec_capacity l.out;
}

abbrev pub decreases-merging : goal.decreases-merging
decreases-merging l = deque_len l.rest + deque_len l.elements
