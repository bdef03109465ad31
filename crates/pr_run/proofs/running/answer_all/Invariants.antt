use Rattle.std.proofs.Common.{◌≡◌, ◌+◌, ◌-◌, ◌^◌, ℕ, Bool, true, List, Ok, IsSome}
use Rattle.std.specs.Io.KnownBytes.{Appends}
use Rattle.pr_outside.specs.Courses.{GoesOn}
use Rattle.pr_outside.specs.Stores.{KeepsTelling}
use Rattle.pr_text.specs.private.LineReading.{ahead, CountsBytes, IsReadOn, KnowsCourse}
use Rattle.pr_text.specs.private.Reading.{unread, IsReady}
use Rattle.pr_run.proofs.Goings.{Going}
use Rattle.pr_run.proofs.running.answer_all.Given as goal

abbrev pub invariant-answering : goal.invariant-answering
invariant-answering g l = record {
  going : Going g.E.Worlds.stands_for l.fn.session
      (record { input = g.I.Source.means l.fn.input; files = g.F.Files.means l.fn.files; store = g.K.Keeper.means l.fn.keeper; out = g.O.Sink.means l.fn.out }) l.session
      (record { input = g.I.Source.means l.input; files = g.F.Files.means l.files; store = g.K.Keeper.means l.keeper; out = g.O.Sink.means l.out })
      (ahead (unread l.reader) (g.I.Source.means l.input).left) l.reader.number;
  written : (text : List ℕ) × Appends (g.O.Sink.means l.fn.out).taken (g.O.Sink.means l.out).taken text;
  ready : IsReady 0 l.reader (g.I.Source.means l.input).left;
  counts : CountsBytes (g.I.Source.means l.fn.input) (g.I.Source.means l.input) 0 l.reader.lines.count;
  is_going : g.E.Worlds.is_going l.session.kept;
  tells : KeepsTelling {T = Bool} (g.K.Keeper.means l.fn.keeper) (g.K.Keeper.means l.keeper) (Ok true);
  told : IsSome (g.K.Keeper.means l.keeper).rows → IsSome (g.K.Keeper.means l.fn.keeper).rows;
  same : (other : List ℕ) → (g.F.Files.means l.files).content other ≡ (g.F.Files.means l.fn.files).content other;
  paths : (g.K.Keeper.means l.keeper).paths ≡ (g.K.Keeper.means l.fn.keeper).paths;
  read_calm : (g.I.Source.means l.input).faults ≡ (g.I.Source.means l.fn.input).faults;
  load_calm : (g.F.Files.means l.files).faults ≡ (g.F.Files.means l.fn.files).faults;
  keep_calm : (g.K.Keeper.means l.keeper).faults ≡ (g.K.Keeper.means l.fn.keeper).faults;
  write_calm : (g.O.Sink.means l.out).faults ≡ (g.O.Sink.means l.fn.out).faults;
  reads : IsReadOn (g.I.Source.means l.fn.input).course l.reader.lines.ended (g.I.Source.means l.input).course;
  over : KnowsCourse (g.I.Source.means l.fn.input).course l.reader.lines.ended (g.I.Source.means l.input).course;
  loads : GoesOn (g.F.Files.means l.fn.files).course (g.F.Files.means l.files).course;
  writes : GoesOn (g.O.Sink.means l.fn.out).course (g.O.Sink.means l.out).course;
}

abbrev pub decreases-answering : goal.decreases-answering
decreases-answering g l = 2 ^ 32 + 4096 - l.reader.number
