-- What rounds keep small, and what their events have. Private contracts cite this: a reader can pass it
-- over.
use Rattle.std.specs.Prelude.{ℕ, ◌*◌, ◌≤◌, List}
use Rattle.std.specs.List.{AllByRecursion}
use Rattle.pr_text.specs.spec_world.private.Laws.{HasDistinctFiles}
use Rattle.pr_text.specs.spec_world.declared.event.Event.{Event}

-- each target counts less than a hundred requests a round
abbrev pub AreWithin : ℕ → List ℕ → Type 0
AreWithin rounds counts = AllByRecursion (λ (count : ℕ). count ≤ 99 * rounds) counts

abbrev pub HaveDistinctFiles : List Event → Type 0
HaveDistinctFiles events = AllByRecursion HasDistinctFiles events
