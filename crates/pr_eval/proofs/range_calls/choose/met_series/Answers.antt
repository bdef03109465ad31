use Rattle.std.proofs.Common.{map, subst, sym}
use Rattle.pr_labels.specs.Rising.{IsRising}
use Rattle.pr_eval.specs.private.Choosing.{labels_of_series}
use Rattle.pr_eval.proofs.Choosing.{rising_met}
use Rattle.pr_eval.proofs.range_calls.choose.met_series.Goals as goal

pub returns-clause-rising : goal.returns-clause-rising
returns-clause-rising c =
    rising_met c.args.matchers.now c.args.head.now c.deref-2.result.now c.in_ok-chosen.chosen.items c.in_ok-chosen.ensures
    (subst (λ l. IsRising (map (labels_of_series c.args.head.now) l)) (sym c.deref-2.ensures.value) c.in_ok-numbers.ensures.in_order)
