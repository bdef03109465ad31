use Rattle.std.proofs.Common.{◌≡◌, ◌++◌, ◌+◌, drop}
use Rattle.pr_eval.specs.private.Reading.{items_read}
use Rattle.pr_eval.proofs.select.read_all.Given as goal

abbrev pub invariant-loop-series : goal.invariant-loop-series
invariant-loop-series g l = record {
  items : l.items.items ++ items_read l.head l.x (drop l.series-index l.numbers) ≡ items_read l.head l.x l.numbers;
  reads : l.reads ≡ l.fn.reads + l.series-index;
}
