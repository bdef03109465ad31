use Rattle.std.proofs.Common.{◌≡◌, ◌+◌, ◌-◌, ◌^◌, ◌≤◌, []}
use Rattle.pr_outside.specs.declared.course.Course.{Course}
use Rattle.pr_text.specs.private.LineReading.{ahead, CountsBytes, IsReadOn, KnowsCourse}
use Rattle.pr_text.specs.private.Reading.{unread, IsReady, Takes}
use Rattle.pr_text.proofs.reader.reader.Reader.next_order.Given as goal

-- what was taken spells no order
abbrev pub invariant-passing : goal.invariant-passing
invariant-passing g l = record {
  ready : IsReady 0 l.self (g.I.Source.means l.input).left;
  taken : Takes (ahead (unread l.fn.self) (g.I.Source.means l.fn.input).left) (ahead (unread l.self) (g.I.Source.means l.input).left) l.fn.self.number l.self.number [];
  number : l.fn.self.number ≤ l.self.number;
  counts : CountsBytes (g.I.Source.means l.fn.input) (g.I.Source.means l.input) l.fn.self.lines.count l.self.lines.count;
  reads : (first : Course) → IsReadOn first l.fn.self.lines.ended (g.I.Source.means l.fn.input).course → IsReadOn first l.self.lines.ended (g.I.Source.means l.input).course;
  over : (first : Course) → KnowsCourse first l.fn.self.lines.ended (g.I.Source.means l.fn.input).course → KnowsCourse first l.self.lines.ended (g.I.Source.means l.input).course;
  calm : (g.I.Source.means l.input).faults ≡ (g.I.Source.means l.fn.input).faults;
}

abbrev pub decreases-passing : goal.decreases-passing
decreases-passing g l = 2 ^ 32 + 4096 - l.self.number
