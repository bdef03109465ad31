-- Of which histories a head can tell what an expression gives.
use Rattle.std.specs.Prelude.{ℕ, ℤ, pos, ◌-ℤ◌, ◌≤ℤ◌, List}
use Rattle.pr_labels.specs.declared.pair.Pair.{Pair}
use Rattle.pr_range.specs.spec_history.declared.entry.Entry.{Entry}
use Rattle.pr_range.specs.spec_history.private.Laws.{IsLawful}
use Rattle.pr_range.specs.pr_head.private.Stored.{Stored}
use Rattle.pr_range.specs.pr_head.private.Holds.{Holds, IsWhole}
use Rattle.pr_range.specs.pr_head.private.Reads.{IsPast}
use Rattle.pr_ast.specs.Tree.{Tree}
use Rattle.pr_ast.specs.Reach.{reads_back}

-- The head stands for a lawful history, and nothing is forgotten above a moment that lies as far
-- before the time as the expression reads back, or further.
pub record KeepsFor (head : List (List Pair × Stored)) (history : List Entry) (t : Tree) (time : ℕ) : Type 0 where
  pub lawful : IsLawful history
  pub holds : Holds head history
  pub forgotten : ℤ
  pub whole : IsWhole head history forgotten
  pub back : forgotten ≤ℤ (pos time -ℤ pos (reads_back t))

-- The same for the series that are shown at one moment: nothing is forgotten that is seen then.
pub record KeepsAt (head : List (List Pair × Stored)) (history : List Entry) (x : ℤ) : Type 0 where
  pub lawful : IsLawful history
  pub holds : Holds head history
  pub forgotten : ℤ
  pub whole : IsWhole head history forgotten
  pub past : IsPast forgotten x
