-- How much counts as passed, as it is known of a rule between its evaluations.
use Rattle.std.specs.Prelude.{◌≡◌, ℕ, ◌≤◌, List, slice_get, Option, Some, None}
use Rattle.pr_ast.specs.pr_labels.declared.pair.Pair.{Pair}
use Rattle.pr_rule.specs.spec_history.declared.entry.Entry.{Entry}
use Rattle.pr_rule.specs.spec_history.private.Laws.{entries_until}
use Rattle.pr_rule.specs.pr_head.private.Holds.{arrivals}
use Rattle.pr_rule.specs.pr_range.private.Asks.{LastAsk, LastAsks, Passed}

-- No more of a series of the history was passed than stands until the end of the last ask.
pub record IsPassedUntil (history : List Entry) (series : ℕ) (b : LastAsk) (u : ℕ) : Type 0 where
  pub labels : List Pair
  pub named : slice_get (arrivals history) series ≡ Some labels
  pub most : u ≤ entries_until history labels b.to

-- Where nothing was asked, nothing was passed.
abbrev pub IsPassedWithin : List Entry → ℕ → Option LastAsk → ℕ → Type 0
IsPassedWithin history series None u = u ≡ 0
IsPassedWithin history series (Some b) u = IsPassedUntil history series b u

abbrev pub ArePassedWithin : List Entry → LastAsks → Passed → Type 0
ArePassedWithin history last passed = (node series : ℕ) → IsPassedWithin history series (last node series) (passed node series)
