use Rattle.std.proofs.Common.{◌≡◌, ◌-◌, ◌^◌, ◌+◌, ◌<◌, length}
use Rattle.std.specs.Io.KnownBytes.{Consumes}
use Rattle.pr_outside.specs.Courses.{GoesOn}
use Rattle.pr_outside.specs.Status.{Took}
use Rattle.pr_outside.proofs.check_loops.input.read_all.Given as goal

abbrev pub invariant-reading : goal.invariant-reading
invariant-reading g l = record {
  few : length l.bytes.items < 2 ^ 32 + 2 ^ 14;
  taken : Consumes (g.I.Source.means l.fn.input).left (g.I.Source.means l.input).left l.bytes.items;
  counted : Took (g.I.Source.means l.fn.input) (g.I.Source.means l.input) (length l.bytes.items);
  calm : (g.I.Source.means l.input).faults ≡ (g.I.Source.means l.fn.input).faults;
  course : GoesOn (g.I.Source.means l.fn.input).course (g.I.Source.means l.input).course;
}

abbrev pub decreases-reading : goal.decreases-reading
decreases-reading g l = (2 ^ 32 + 2 ^ 14) - length l.bytes.items
