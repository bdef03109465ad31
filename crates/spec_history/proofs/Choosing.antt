-- The chosen series rise, and are those of the entries that pass the test.
use Rattle.std.proofs.Common.{◌≡◌, Bool, ◌&&◌, List, [], map, filter, ◌∙◌}
use Rattle.pr_labels.specs.declared.pair.Pair.{Pair}
use Rattle.pr_labels.specs.Rising.{IsRising, is_among}
use Rattle.pr_labels.proofs.LabelOrder.{rising_fold, among_fold, among_filter}
use Rattle.spec_history.specs.declared.entry.Entry.{Entry}
use Rattle.spec_history.specs.Series.{chosen}

pub chosen_rising : (test : List Pair → Bool) (history : List Entry) → IsRising (chosen test history)
chosen_rising test history = rising_fold [] (filter test (map (λ e. e.labels) history)) tt

pub chosen_among : (test : List Pair → Bool) (history : List Entry) (one : List Pair)
    → is_among one (chosen test history) ≡ (test one && is_among one (map (λ e. e.labels) history))
chosen_among test history one = among_fold one [] (filter test (map (λ e. e.labels) history)) ∙ among_filter test one (map (λ e. e.labels) history)
