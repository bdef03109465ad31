-- What is counted while the samples of a body are put. Private contracts cite this: a reader can
-- pass it over.
use Rattle.std.specs.Prelude.{◌≡◌, ℕ, ◌+◌, ◌++◌, List}
use Rattle.pr_labels.specs.declared.pair.Pair.{Pair}
use Rattle.pr_head.specs.spec_history.declared.entry.Entry.{Entry}
use Rattle.pr_manager.specs.pr_expo.declared.exposition.Line.{Line}
use Rattle.pr_manager.specs.spec_world.Scrapes.{dropped_count, kept_sets, offers}
use Rattle.pr_engine.specs.declared.scrape.tally.Tally.{Tally}

-- how many samples of these lines were dropped, and the series that they leave tracked, in order of
-- the lines
pub record Tallies (old new : Tally) (target : List Pair) (now : ℕ) (lines : List Line) (history : List Entry) : Type 0 where
  pub dropped : new.dropped ≡ old.dropped + dropped_count target now lines history
  pub kept : new.kept.items ≡ old.kept.items ++ kept_sets history (offers target now lines)
