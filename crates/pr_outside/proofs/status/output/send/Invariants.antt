use Rattle.std.proofs.Common.{◌≡◌, ◌-◌, ◌≤◌, length, take}
use Rattle.std.specs.Io.KnownBytes.{Appends}
use Rattle.pr_outside.specs.Courses.{GoesOn}
use Rattle.pr_outside.proofs.status.output.send.Given as goal

abbrev pub invariant-writing : goal.invariant-writing
invariant-writing g l = record {
  within : l.at ≤ length l.text;
  taken : Appends (g.O.Sink.means l.fn.out).taken (g.O.Sink.means l.out).taken (take l.at l.text);
  calm : (g.O.Sink.means l.out).faults ≡ (g.O.Sink.means l.fn.out).faults;
  course : GoesOn (g.O.Sink.means l.fn.out).course (g.O.Sink.means l.out).course;
}

abbrev pub decreases-writing : goal.decreases-writing
decreases-writing g l = length l.text - l.at
