use Rattle.std.proofs.Common.{◌≡◌, ℕ, ◌+◌, List, length, Ok, IsSome}
use Rattle.pr_text.specs.spec_history.declared.entry.Entry.{Entry}
use Rattle.pr_text.specs.spec_world.declared.event.Event.{Event}
use Rattle.pr_outside.specs.Stores.{KeepsTelling}
use Rattle.pr_exercise.specs.private.Tallies.{HasRoomForTexts}
use Rattle.pr_exercise.specs.private.Turns.{HaveDistinctFiles}
use Rattle.pr_exercise.specs.private.Standing.{ExerciseStands}
use Rattle.pr_exercise.proofs.Progress.{Answered}
use Rattle.pr_exercise.proofs.session.Session.take_all.Given as goal

-- the events so far are answered
abbrev pub invariant-loop-event : goal.invariant-loop-event
invariant-loop-event g l = record {
  going : (history : List Entry) (done : List Event) → ExerciseStands g.E.Worlds.stands_for history done l.fn.self (g.K.Keeper.means l.fn.keeper) → IsSome (g.K.Keeper.means l.keeper).rows
      → Answered g.E.Worlds.stands_for history done l.fn.events.items l.event-iterator.rest.items l.self (g.K.Keeper.means l.keeper);
  files : HaveDistinctFiles l.event-iterator.rest.items;
  unbroken : g.E.Worlds.is_going l.self.kept;
  room : (more : ℕ) → HasRoomForTexts (more + length l.fn.events.items) l.fn.self.tally → HasRoomForTexts (more + length l.event-iterator.rest.items) l.self.tally;
  tells : KeepsTelling {T = Unit} (g.K.Keeper.means l.fn.keeper) (g.K.Keeper.means l.keeper) (Ok tt);
  told : IsSome (g.K.Keeper.means l.keeper).rows → IsSome (g.K.Keeper.means l.fn.keeper).rows;
  paths : (g.K.Keeper.means l.keeper).paths ≡ (g.K.Keeper.means l.fn.keeper).paths;
  calm : (g.K.Keeper.means l.keeper).faults ≡ (g.K.Keeper.means l.fn.keeper).faults;
}
