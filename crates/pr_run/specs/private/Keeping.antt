-- Which world is kept in a run, and how far it has come.
use Rattle.std.specs.Prelude.{◌≡◌, Bool, false, ◌||◌, List}
use Rattle.pr_queue.specs.spec_history.declared.entry.Entry.{Entry}
use Rattle.pr_outside.specs.Meant.{Store}
use Rattle.pr_queue.specs.private.Queues.{ReceiverQueue}
use Rattle.pr_queue.specs.private.Standing as waiting
use Rattle.pr_text.specs.spec_world.World.{World}
use Rattle.pr_text.specs.declared.script.order.Numbered.{Numbered}
use Rattle.pr_outside.specs.Outside.{Held}
use Rattle.pr_run.specs.Told.{State, begun, turn}

-- what a run keeps in mind, and whether an order was refused
pub record Progress : Type 0 where
  pub state : State
  pub refused : Bool

abbrev pub unanswered : List Entry → Progress
unanswered history = record { state = begun history; refused = false }

-- one order further
abbrev pub progress_after : Held → Progress → Numbered → Progress
progress_after held p o = record { state = (turn held p.state o).state; refused = p.refused || (turn held p.state o).answer.refused }

-- what a session has: what keeps the world, and the queues of the receivers
pub record Run (E : Type 0) : Type 0 where
  pub kept : E
  pub queues : List ReceiverQueue
  pub refused : Bool

pub record KeepsProgress {E : Type 0} (stands_for : E → Store → World → Type 0) (run : Run E) (store : Store) (p : Progress) : Type 0 where
  pub world : stands_for run.kept store p.state.world
  pub receivers : waiting.StandsFor run.queues p.state.receivers
  pub refused : run.refused ≡ p.refused
