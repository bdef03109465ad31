use Rattle.std.proofs.Common.{◌+◌, ◌*◌, ◌≡◌, List, take, Result, Ok, sum_by}
use Rattle.pr_range.specs.spec_history.declared.entry.Entry.{Entry}
use Rattle.pr_ast.specs.Tree.{trees_of, tree_of}
use Rattle.pr_range.specs.spec_vectors.declared.range.RangeFn.{RangeFn}
use Rattle.spec_meaning.specs.Meaning.{operands, meaning}
use Rattle.pr_eval.specs.declared.values.error.EvalError.{EvalError}
use Rattle.pr_eval.specs.private.Plain.{all_plain}
use Rattle.pr_eval.specs.private.Evaluated.{IsEvaluated, MayTake, kept_by}
use Rattle.pr_eval.specs.private.Parts.{counts_after}
use Rattle.pr_eval.specs.private.Sizes.{node_count}
use Rattle.pr_eval.proofs.+evaluation.Given as goal
use Rattle.std.specs.BTreeMap.{IsOrdered}
use Rattle.pr_labels.specs.Order.{labels_cmp}
use Rattle.spec_meaning.specs.private.Cost.{cost, nothing_passed}
use Rattle.spec_meaning.specs.Subqueries.{Taken, at_each}
use Rattle.pr_eval.specs.private.Taken.{AreTaken}
use Rattle.pr_eval.specs.private.Subqueries.{MayTakeEach, TakesInside}

-- how many nodes the part has, and then which function stands above which
abbrev pub decreases-evaluate::eval_at : goal.decreases-evaluate::eval_at
decreases-evaluate::eval_at g l = 8 * node_count (tree_of l.e.now) + 7

abbrev pub decreases-operators::negation : goal.decreases-operators::negation
decreases-operators::negation g l = 8 * node_count (tree_of l.e.now) + 6

abbrev pub decreases-operators::operation : goal.decreases-operators::operation
decreases-operators::operation g l = 8 * node_count (tree_of l.e.now) + 6

abbrev pub decreases-aggregate::aggregation : goal.decreases-aggregate::aggregation
decreases-aggregate::aggregation g l = 8 * node_count (tree_of l.e.now) + 6

abbrev pub decreases-aggregate::aggregation_by : goal.decreases-aggregate::aggregation_by
decreases-aggregate::aggregation_by g l = 8 * node_count (tree_of l.e.now) + 6

abbrev pub decreases-call::call : goal.decreases-call::call
decreases-call::call g l = 8 * node_count (tree_of l.e.now) + 6

abbrev pub decreases-call::plain_call : goal.decreases-call::plain_call
decreases-call::plain_call g l = 8 * node_count (tree_of l.e.now) + 5

abbrev pub decreases-call::operands : goal.decreases-call::operands
decreases-call::operands g l = 8 * node_count (trees_of l.args.now) + 7

abbrev pub decreases-range_call::range_call : goal.decreases-range_call::range_call
decreases-range_call::range_call g l = 8 * node_count (tree_of l.e.now) + 5

abbrev pub decreases-range_call::over_range : goal.decreases-range_call::over_range
decreases-range_call::over_range g l = 8 * node_count (tree_of l.e.now) + 7

abbrev pub decreases-range_call::prediction : goal.decreases-range_call::prediction
decreases-range_call::prediction g l = 8 * node_count (trees_of l.args.now) + 7

abbrev pub decreases-subquery::series_of : goal.decreases-subquery::series_of
decreases-subquery::series_of g l = 8 * node_count (tree_of l.inner.now) + 10

abbrev pub decreases-subquery::gathered : goal.decreases-subquery::gathered
decreases-subquery::gathered g l = 8 * node_count (tree_of l.inner.now) + 9

abbrev pub decreases-subquery::value_at : goal.decreases-subquery::value_at
decreases-subquery::value_at g l = 8 * node_count (tree_of l.inner.now) + 8

-- what is known after some of the arguments
abbrev pub invariant-call::operands-loop-arg : goal.invariant-call::operands-loop-arg
invariant-call::operands-loop-arg g l = record {
  count : l.number ≡ counts_after l.fn.number (trees_of (take l.arg-index l.args));
  answer : (history : List Entry) (func : RangeFn) → MayTake l.scope.head.now l.scope.inside history func (trees_of l.args) l.scope.time l.fn.number.ranges (g.R.Ranges.fits l.fn.ranges history) (g.R.Ranges.last l.fn.ranges)
      → operands l.scope.step history (trees_of (take l.arg-index l.args)) l.scope.time ≡ Ok (all_plain l.given.items);
  taken : (history : List Entry) (func : RangeFn) → MayTake l.scope.head.now l.scope.inside history func (trees_of l.args) l.scope.time l.fn.number.ranges (g.R.Ranges.fits l.fn.ranges history) (g.R.Ranges.last l.fn.ranges)
      → let done : Result (Unit {0}) EvalError = Ok tt in
      IsEvaluated g.R.Ranges.keeps l.scope.inside l.scope.step history func (trees_of (take l.arg-index l.args)) l.scope.time l.fn.number.ranges (kept_by (g.R.Ranges.last l.fn.ranges) (g.R.Ranges.passed l.fn.ranges))
      (kept_by (g.R.Ranges.last l.ranges) (g.R.Ranges.passed l.ranges)) (g.R.Ranges.fits l.ranges history) l.fn.reads l.reads done;
}

-- what was gathered at the times so far
abbrev pub invariant-subquery::gathered-loop-number : goal.invariant-subquery::gathered-loop-number
invariant-subquery::gathered-loop-number g l = record {
  ordered : IsOrdered labels_cmp l.series;
  answer : (history : List Entry) → MayTakeEach l.scope.head.now history (tree_of l.inner) l.times (g.R.Ranges.fits l.fn.ranges history)
      → (ts : List Taken) × ((at_each (meaning l.scope.step history (tree_of l.inner)) (take l.number l.times) ≡ Ok ts) × AreTaken ts l.series);
  taken : (history : List Entry) → MayTakeEach l.scope.head.now history (tree_of l.inner) l.times (g.R.Ranges.fits l.fn.ranges history)
      → let done : Result (Unit {0}) EvalError = Ok tt in
      TakesInside (sum_by (cost l.scope.step history nothing_passed (tree_of l.inner) l.at.ranges) (take l.number l.times)) (kept_by (g.R.Ranges.last l.fn.ranges) (g.R.Ranges.passed l.fn.ranges))
      (kept_by (g.R.Ranges.last l.ranges) (g.R.Ranges.passed l.ranges)) (g.R.Ranges.fits l.ranges history) l.fn.reads l.reads done;
}
