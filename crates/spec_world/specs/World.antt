-- What the engine stands for.
use Rattle.std.specs.Prelude.{ℕ, Bool, false, List, [], Option, None}
use Rattle.spec_vectors.specs.spec_history.declared.entry.Entry.{Entry}
use Rattle.spec_rules.specs.Groups.{Group}
use Rattle.spec_world.specs.Targets.{Target}

-- the history, the time of the last event that was accepted, the targets that are known, the groups
-- in order, and whether a reload was accepted since the start
pub record World : Type 0 where
  pub history : List Entry
  pub last : Option ℕ
  pub targets : List Target
  pub groups : List Group
  pub reloaded : Bool

-- The world that begins over a history, where the last event was so: nothing else is known yet.
abbrev pub begin : Option ℕ → List Entry → World
begin last history = record { history = history; last = last; targets = []; groups = []; reloaded = false }

abbrev pub start : List Entry → World
start history = begin None history
