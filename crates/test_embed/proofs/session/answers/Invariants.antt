use Rattle.std.proofs.Common.{◌≡◌, IsSome, IsTrue}
use Rattle.test_embed.specs.private.Answers.{HaveDistinctFiles}
use Rattle.test_embed.proofs.Answered.{Answered}
use Rattle.test_embed.proofs.session.answers.Given as goal

-- the count of reads is that of the blank that is handed in
abbrev pub ghosts-answer : goal.ghosts-answer
ghosts-answer g a = record { name = a.blank.name; parts = a.blank.parts }

-- the events so far are answered
abbrev pub invariant-loop-event : goal.invariant-loop-event
invariant-loop-event g l = record {
  answered : IsSome (g.K.Keeper.means l.keeper).rows
      → Answered g.R.Ranges.fits g.R.Ranges.last g.R.Ranges.passed l.fn.step (g.K.Keeper.means l.fn.keeper) l.fn.events.items l.event-iterator.rest.items l.reports.items l.engine (g.K.Keeper.means l.keeper);
  tells : IsTrue (g.K.Keeper.means l.keeper).sound → IsSome (g.K.Keeper.means l.keeper).rows;
  files : HaveDistinctFiles l.event-iterator.rest.items;
  step : l.engine.step ≡ l.fn.step;
  calm : (g.K.Keeper.means l.keeper).faults ≡ (g.K.Keeper.means l.fn.keeper).faults;
}
