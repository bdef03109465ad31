use Rattle.std.proofs.Common.{◌≡◌, ◌++◌, List, map}
use Rattle.pr_labels.specs.declared.item.Item.{Item}
use Rattle.pr_labels.specs.Rising.{IsRising}
use Rattle.pr_range.specs.spec_history.declared.spot.Spot.{Spot}
use Rattle.pr_range.specs.spec_vectors.Vectors.{label_sets}
use Rattle.pr_eval.specs.private.Answering.{after, elements_of}
use Rattle.pr_eval.specs.private.Taken.{AreAllWithin, entry_series, series_in}
use Rattle.pr_eval.proofs.range_calls.of_subquery.elements.Given as goal

-- the series so far have answered
abbrev pub invariant-loop-labels : goal.invariant-loop-labels
invariant-loop-labels l = record {
  answer : AreAllWithin l.ask.from l.ask.to (series_in l.fn.series) → after l.elements.items (elements_of l.ask (map entry_series l.labels-iterator)) ≡ elements_of l.ask (series_in l.fn.series);
  within : AreAllWithin l.ask.from l.ask.to (series_in l.fn.series) → AreAllWithin l.ask.from l.ask.to (map entry_series l.labels-iterator);
  rising : IsRising (label_sets l.elements.items ++ map (λ (s : Item (List Spot)). s.labels) (map entry_series l.labels-iterator));
}
