use Rattle.std.proofs.Common.{◌≡◌, ◌++◌, drop, filter}
use Rattle.pr_eval.specs.private.Choosing.{is_met_by}
use Rattle.pr_eval.proofs.range_calls.choose.met.Given as goal

abbrev pub invariant-loop-series : goal.invariant-loop-series
invariant-loop-series l = record {
  selection : l.selection ≡ l.matchers;
  met : l.met.items ++ filter (is_met_by l.matchers l.head) (drop l.series-index l.numbers) ≡ filter (is_met_by l.matchers l.head) l.numbers;
}
