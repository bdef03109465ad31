use Rattle.std.proofs.Common.{◌≡◌, ℕ, ◌+◌, ◌≤◌, ◌<◌, ◌++◌, List, take, drop, map, length}
use Rattle.std.specs.List.{All}
use Rattle.pr_labels.specs.declared.pair.Pair.{Pair}
use Rattle.pr_labels.specs.Rising.{IsRising}
use Rattle.pr_range.specs.spec_history.declared.entry.Entry.{Entry}
use Rattle.pr_range.specs.pr_head.private.Holds.{arrivals, labels_at}
use Rattle.pr_range.specs.spec_vectors.private.Laws.{answer_to}
use Rattle.pr_eval.specs.declared.range_calls.asking.RangeAnswer.{RangeAnswer}
use Rattle.pr_eval.specs.private.Answering.{after, answers_of}
use Rattle.pr_eval.specs.private.RangeCallsAsking.{AreAsked, AreOnce, MayAskEach, numbers_cost}
use Rattle.pr_eval.proofs.range_calls.asking.ask_each.Given as goal

-- the series so far were asked
abbrev pub invariant-loop-series : goal.invariant-loop-series
invariant-loop-series g l = record {
  answer : (history : List Entry) → MayAskEach l.head history l.ask (g.R.Ranges.fits l.fn.ranges history) (g.R.Ranges.last l.fn.ranges) l.node → AreOnce l.numbers
      → after l.answers.items (answers_of (λ n. answer_to history (labels_at (arrivals history) n) l.ask) (drop l.series-index l.numbers))
      ≡ answers_of (λ n. answer_to history (labels_at (arrivals history) n) l.ask) l.numbers;
  known : All (λ (x : RangeAnswer). x.series < length l.head) l.answers.items;
  rising : (f : ℕ → List Pair) → IsRising (map f l.numbers) → IsRising (map (λ (x : RangeAnswer). f x.series) l.answers.items ++ map f (drop l.series-index l.numbers));
  reads : (history : List Entry) → MayAskEach l.head history l.ask (g.R.Ranges.fits l.fn.ranges history) (g.R.Ranges.last l.fn.ranges) l.node → AreOnce l.numbers
      → l.reads + numbers_cost history l.ask (g.R.Ranges.passed l.fn.ranges l.node) (drop l.series-index l.numbers) ≤ l.fn.reads + numbers_cost history l.ask (g.R.Ranges.passed l.fn.ranges l.node) l.numbers;
  fits : (history : List Entry) → MayAskEach l.head history l.ask (g.R.Ranges.fits l.fn.ranges history) (g.R.Ranges.last l.fn.ranges) l.node → AreOnce l.numbers → g.R.Ranges.fits l.ranges history;
  asked : (history : List Entry) → MayAskEach l.head history l.ask (g.R.Ranges.fits l.fn.ranges history) (g.R.Ranges.last l.fn.ranges) l.node → AreOnce l.numbers
      → AreAsked history g.R.Ranges.keeps l.node l.ask (take l.series-index l.numbers) (g.R.Ranges.last l.fn.ranges) (g.R.Ranges.last l.ranges) (g.R.Ranges.passed l.fn.ranges) (g.R.Ranges.passed l.ranges);
}
