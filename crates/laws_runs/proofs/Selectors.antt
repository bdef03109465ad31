-- What is passed of two range selectors.
use Rattle.std.proofs.Common.{◌≡◌, ℕ, true, List}
use Rattle.spec_history.specs.declared.entry.Entry.{Entry}
use Rattle.spec_history.specs.private.Laws.{entries_until}
use Rattle.pr_labels.specs.declared.pair.Pair.{Pair}
use Rattle.pr_labels.specs.Rising.{is_among}
use Rattle.spec_rules.specs.spec_meaning.private.Cost.{PassedFor}
use Rattle.spec_rules.specs.spec_meaning.Selection.{chosen_by, moment_of}
use Rattle.spec_rules.specs.private.Examples.{rate_of, sum_of, times}
use Rattle.spec_rules.specs.private.Passed.{ArePassed}
use Rattle.laws_runs.specs.private.Worked.{m_chosen}

pub both_passed : (history : List Entry) (u : PassedFor) (time : ℕ) (labels : List Pair) → ArePassed history u (times (rate_of 60000) (sum_of 120000)) 0 time
    → is_among labels (chosen_by m_chosen history) ≡ true
    → (u 0 labels ≡ entries_until history labels (moment_of m_chosen time)) × (u 1 labels ≡ entries_until history labels (moment_of m_chosen time))
both_passed history u time labels h k = (h.0.1 labels k, h.1.1 labels k)
