use Rattle.std.proofs.Common.{◌≡◌, ◌+◌, ◌-◌, ◌^◌, ◌≤◌, ◌<◌, true, length}
use Rattle.std.specs.List.{list_all}
use Rattle.std.specs.Io.KnownBytes.{Consumes}
use Rattle.pr_outside.specs.declared.course.Course.{Course}
use Rattle.pr_text.specs.Taken.{is_no_feed}
use Rattle.pr_text.specs.private.LineReading.{held, KnowsEnd, ahead, CountsBytes, IsReadOn, KnowsCourse}
use Rattle.pr_text.proofs.reader.lines.LineReader.next_line.Given as goal

-- the line so far, and what is still to come, are what was to come
abbrev pub invariant-joining : goal.invariant-joining
invariant-joining g l = record {
  within : l.self.at ≤ length l.self.piece.items;
  bytes : l.self.count + length (held l.fn.self) ≡ l.fn.self.count + (length l.line.items + length (held l.self));
  count : l.self.count < 2 ^ 32 + 4096;
  unended : list_all is_no_feed l.line.items ≡ true;
  joined : Consumes (ahead (held l.fn.self) (g.I.Source.means l.fn.input).left) (ahead (held l.self) (g.I.Source.means l.input).left) l.line.items;
  end : KnowsEnd l.self (g.I.Source.means l.input).left;
  counts : CountsBytes (g.I.Source.means l.fn.input) (g.I.Source.means l.input) l.fn.self.count l.self.count;
  reads : (first : Course) → IsReadOn first l.fn.self.ended (g.I.Source.means l.fn.input).course → IsReadOn first l.self.ended (g.I.Source.means l.input).course;
  over : (first : Course) → KnowsCourse first l.fn.self.ended (g.I.Source.means l.fn.input).course → KnowsCourse first l.self.ended (g.I.Source.means l.input).course;
  calm : (g.I.Source.means l.input).faults ≡ (g.I.Source.means l.fn.input).faults;
}

abbrev pub decreases-joining : goal.decreases-joining
decreases-joining g l = 2 ^ 32 + 4096 - l.self.count
