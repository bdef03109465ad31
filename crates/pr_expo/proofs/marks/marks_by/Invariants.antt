use Rattle.std.proofs.Common.{◌≡◌, drop}
use Rattle.std.specs.Prelude.{replicate}
use Rattle.pr_expo.specs.private.Marking.{marks_after, no_marks}
use Rattle.pr_expo.proofs.marks.marks_by.Given as goal

-- the samples left are still to be seen
abbrev pub invariant-loop-line : goal.invariant-loop-line
invariant-loop-line l = marks_after l.marks.items (drop l.line-index l.lines) ≡ marks_after (replicate l.count no_marks) l.lines
