use Rattle.std.proofs.Common.{◌≡◌, ◌-◌, ◌*◌, List, [], length, Ok, IsSome}
use Rattle.pr_text.specs.spec_history.declared.entry.Entry.{Entry}
use Rattle.pr_text.specs.spec_world.World.{start}
use Rattle.pr_exercise.specs.Exercise.{exercise_events, turns_from}
use Rattle.pr_outside.specs.Stores.{KeepsTelling}
use Rattle.pr_exercise.specs.private.Tallies.{HasRoomForTexts}
use Rattle.pr_exercise.specs.private.Turns.{AreWithin}
use Rattle.pr_exercise.proofs.Progress.{Answered}
use Rattle.pr_exercise.proofs.running.answer_all.Given as goal

-- the events so far are answered, and those of the rounds to come are left
abbrev pub invariant-loop-round : goal.invariant-loop-round
invariant-loop-round g l = record {
  going : (history : List Entry) → g.E.Worlds.stands_for l.fn.kept (g.K.Keeper.means l.fn.keeper) (start history) → (g.K.Keeper.means l.fn.keeper).count ≡ length history
      → IsSome (g.K.Keeper.means l.keeper).rows
      → Answered g.E.Worlds.stands_for history [] (exercise_events l.fn.rounds) (turns_from l.round (l.fn.rounds - l.round) l.targets.number l.targets.counts.items) l.session (g.K.Keeper.means l.keeper);
  small : AreWithin l.round l.targets.counts.items;
  four : length l.targets.counts.items ≡ 4;
  unbroken : g.E.Worlds.is_going l.session.kept;
  room : HasRoomForTexts (7 * (l.fn.rounds - l.round)) l.session.tally;
  tells : KeepsTelling {T = Unit} (g.K.Keeper.means l.fn.keeper) (g.K.Keeper.means l.keeper) (Ok tt);
  told : IsSome (g.K.Keeper.means l.keeper).rows → IsSome (g.K.Keeper.means l.fn.keeper).rows;
  paths : (g.K.Keeper.means l.keeper).paths ≡ (g.K.Keeper.means l.fn.keeper).paths;
  calm : (g.K.Keeper.means l.keeper).faults ≡ (g.K.Keeper.means l.fn.keeper).faults;
}
