-- Which world an engine stands for: it keeps a head in place of the history, a map in place of the list
-- of targets, and a manager in place of the groups, and a store has the rows of the history. What is
-- kept of ranges is known by what it fits, by the last asks, and by what was passed.
use Rattle.std.specs.Prelude.{◌≡◌, ℕ, ℤ, true, false, List, slice_get, Option, Some, None}
use Rattle.std.specs.List.{All}
use Rattle.pr_head.specs.private.Holds.{Holds, IsWhole}
use Rattle.pr_head.specs.private.Stored.{Stored}
use Rattle.pr_head.specs.spec_history.private.Laws.{IsLawful}
use Rattle.pr_head.specs.spec_history.Lookback.{is_after}
use Rattle.pr_head.specs.spec_history.declared.entry.Entry.{Entry}
use Rattle.pr_head.specs.private.Intake.{Series}
use Rattle.pr_labels.specs.declared.pair.Pair.{Pair}
use Rattle.pr_manager.specs.private.Keeping.{ManagesGroupsOf, KeptManager, settings_in}
use Rattle.pr_outside.specs.Meant.{Store}
use Rattle.pr_manager.specs.pr_range.private.Asks.{LastAsks, Passed}
use Rattle.pr_engine.specs.private.Knowing.{Knows, Tracked}
use Rattle.pr_manager.specs.spec_world.private.Laws.{IsNotBefore, is_refusal}
use Rattle.pr_manager.specs.spec_world.World.{World, begin, start}
use Rattle.pr_manager.specs.spec_world.declared.event.Event.{Event}
use Rattle.pr_manager.specs.spec_world.declared.event.Event.TheVariants as event
use Rattle.pr_manager.specs.spec_world.declared.report.Report.{Report}
use Rattle.pr_engine.specs.private.Events.{settings_of}
use Rattle.pr_engine.specs.private.Rows.{TellsOf}
use Rattle.pr_engine.specs.private.Times.{IsKeptAbove, forgotten_at}
use Rattle.pr_engine.specs.declared.fault.Cause.{Cause}

-- what is kept of a world: the series that are held, the targets with what is tracked of each, and the
-- groups
pub record KeptParts (R : Type 0) : Type 0 where
  pub head : Series
  pub targets : Tracked
  pub manager : KeptManager R

-- and beside it the step of subqueries that name none, the time of the last event, and what broke the
-- engine, where it is broken
pub record KeptEngine (R : Type 0) : Type 0 where
  pub parts : KeptParts R
  pub step : ℕ
  pub last : Option ℕ
  pub broken : Option Cause

-- a head stands for a history of which nothing is forgotten that may be seen after the last event
pub record IsHeadOf (head : Series) (last : Option ℕ) (history : List Entry) : Type 0 where
  pub holds : Holds head history
  pub whole : (x : ℤ) → IsKeptAbove last x → IsWhole head history x
  pub lawful : IsLawful history

-- a head holds no sample at or before a moment
abbrev pub HoldsNoneUntil : Series → ℤ → Type 0
HoldsNoneUntil head x = (i : ℕ) (e : List Pair × Stored) → slice_get head i ≡ Some e → All (λ s. is_after x s.time ≡ true) e.1.held

-- After an accepted evaluation no sample is held that is 45 days old.
abbrev pub Forgets : Event → Report → Series → Type 0
Forgets (event.Add time labels point) report head = Unit {0}
Forgets (event.Query time text) report head = Unit {0}
Forgets (event.Scrape time target body) report head = Unit {0}
Forgets (event.Fail time target) report head = Unit {0}
Forgets (event.Gone time target) report head = Unit {0}
Forgets (event.Eval time file group) report head = is_refusal report ≡ false → HoldsNoneUntil head (forgotten_at time)
Forgets (event.Reload time files) report head = Unit {0}
Forgets (event.Restart time) report head = Unit {0}
Forgets (event.Alerts time) report head = Unit {0}

pub record KeepsWorld {R : Type 0} (fits : R → List Entry → Type 0) (last : R → LastAsks) (passed : R → Passed) (step : ℕ) (k : KeptParts R) (w : World) : Type 0 where
  pub head : IsHeadOf k.head w.last w.history
  pub targets : Knows k.targets w.targets
  pub settings : settings_in k.manager ≡ settings_of step
  pub groups : ManagesGroupsOf fits last passed k.manager w

-- a world is kept in which a time is not before the last event
pub record KeepsBefore {R : Type 0} (fits : R → List Entry → Type 0) (last : R → LastAsks) (passed : R → Passed) (step : ℕ) (k : KeptParts R) (w : World) (time : ℕ) : Type 0 where
  pub keeps : KeepsWorld fits last passed step k w
  pub in_time : IsNotBefore w.last time

-- of a broken engine only the rows, and the time, stand for the world
abbrev pub KeepsUnless : {R : Type 0} → (R → List Entry → Type 0) → (R → LastAsks) → (R → Passed) → ℕ → Option Cause → KeptParts R → World → Type 0
KeepsUnless fits last passed step None k w = KeepsWorld fits last passed step k w
KeepsUnless fits last passed step (Some first) k w = Unit {0}

pub record StandsFor {R : Type 0} (fits : R → List Entry → Type 0) (asked : R → LastAsks) (passed : R → Passed) (k : KeptEngine R) (store : Store) (w : World) : Type 0 where
  pub last : k.last ≡ w.last
  pub tells : TellsOf store w.history
  pub keeps : KeepsUnless fits asked passed k.step k.broken k.parts w

-- What is kept is that of the world that begins over the rows of a store, whatever the time of the last
-- event. The rows tell the history, where they are told.
pub record Begins {R : Type 0} (fits : R → List Entry → Type 0) (asked : R → LastAsks) (passed : R → Passed) (step : ℕ) (k : KeptParts R) (store : Store) : Type 0 where
  pub history : List Entry
  pub keeps : (last : Option ℕ) → KeepsWorld fits asked passed step k (begin last history)
  pub tells : TellsOf store history

-- an engine stands for the world that starts over the rows of a store
pub record Starts {R : Type 0} (fits : R → List Entry → Type 0) (asked : R → LastAsks) (passed : R → Passed) (k : KeptEngine R) (store : Store) : Type 0 where
  pub history : List Entry
  pub stands : StandsFor fits asked passed k store (start history)

-- an engine stands for some world
pub record StandsForSome {R : Type 0} (fits : R → List Entry → Type 0) (asked : R → LastAsks) (passed : R → Passed) (k : KeptEngine R) (store : Store) : Type 0 where
  pub world : World
  pub stands : StandsFor fits asked passed k store world
