-- What is kept of a world.
use Rattle.std.specs.Prelude.{◌≡◌, List, length}
use Rattle.pr_outside.specs.spec_history.declared.entry.Entry.{Entry}
use Rattle.pr_outside.specs.Meant.{Store}
use Rattle.spec_world.specs.World.{World, start}

-- What is kept stands for the world that begins over the rows of a store.
pub record Starts {E : Type 0} (stands_for : E → Store → World → Type 0) (kept : E) (store : Store) : Type 0 where
  pub history : List Entry
  pub stands : stands_for kept store (start history)
  pub count : store.count ≡ length history
