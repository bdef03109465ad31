-- Which world the engine of a run stands for.
use Rattle.std.specs.Prelude.{◌≡◌, List, None}
use Rattle.pr_engine.specs.private.Standing.{KeptEngine, StandsFor}
use Rattle.pr_outside.specs.spec_history.declared.entry.Entry.{Entry}
use Rattle.pr_outside.specs.Meant.{Store}
use Rattle.pr_engine.specs.pr_range.private.Asks.{LastAsks, Passed}
use Rattle.pr_run.specs.spec_world.World.{World}

-- The engine stands for it, nothing broke it, and a subquery that names no step has one of a minute.
pub record IsRunning {R : Type 0} (fits : R → List Entry → Type 0) (asked : R → LastAsks) (passed : R → Passed) (k : KeptEngine R) (store : Store) (w : World) : Type 0 where
  pub stands : StandsFor fits asked passed k store w
  pub whole : k.broken ≡ None
  pub step : k.step ≡ 60000
