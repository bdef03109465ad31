-- Words of laws and examples, which nothing of the promise names.
use Rattle.std.specs.Prelude.{ℕ, ◌-◌, max, List, Option, Result}
use Rattle.pr_num.specs.declared.value.Num.{Num}
use Rattle.spec_history.specs.pr_labels.declared.pair.Pair.{Pair}
use Rattle.spec_history.specs.declared.entry.Entry.{Entry}
use Rattle.spec_history.specs.private.Laws.{entries_until}
use Rattle.spec_history.specs.Lookback.{spots_within}
use Rattle.spec_vectors.specs.declared.range.Ask.{Ask}
use Rattle.spec_vectors.specs.declared.range.AskFault.{AskFault}
use Rattle.spec_vectors.specs.Ranges.{over}
use Rattle.spec_history.specs.pr_labels.declared.item.Item.{Item}
use Rattle.spec_history.specs.pr_labels.Rising.{IsRising}
use Rattle.spec_vectors.specs.Vectors.{label_sets}

-- The answer for a series of a history.
abbrev pub answer_to : List Entry → List Pair → Ask → Result (Option Num) AskFault
answer_to history labels a = over a (spots_within history labels a.from a.to)

-- How many entries of a series an ask may read where the first `passed` of them are known: those of
-- the range alone.
abbrev pub ask_cost : List Entry → List Pair → Ask → ℕ → ℕ
ask_cost history labels a passed = entries_until history labels a.to - max (entries_until history labels a.from) passed

-- the label sets rise, so that none comes twice
abbrev pub IsVector : List (Item Num) → Type 0
IsVector items = IsRising (label_sets items)
