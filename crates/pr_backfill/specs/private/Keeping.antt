-- How what is kept of groups stands for the groups of a backfill.
use Rattle.std.specs.Prelude.{List}
use Rattle.spec_rules.specs.spec_history.declared.entry.Entry.{Entry}
use Rattle.pr_engine.specs.pr_range.private.Asks.{LastAsks, Passed}
use Rattle.spec_rules.specs.Groups.{Group}
use Rattle.spec_rules.specs.Settings.{of_a_run}
use Rattle.pr_engine.specs.pr_group.private.Keeping.{KeptGroup}
use Rattle.pr_engine.specs.pr_manager.private.Keeping.{KeepEach}

-- each is kept over the history, in order, under the settings of a run
abbrev pub KeepsToFill : {R : Type 0} → (R → List Entry → Type 0) → (R → LastAsks) → (R → Passed) → List Entry → List (KeptGroup R) → List Group → Type 0
KeepsToFill fits last passed history ks groups = KeepEach fits last passed of_a_run history ks groups
