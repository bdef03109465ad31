use Rattle.std.proofs.Common.{◌≡◌, ◌++◌, drop, length}
use Rattle.std.specs.Prelude.{replicate}
use Rattle.pr_expo.specs.Lint.{problems_from, lint}
use Rattle.pr_expo.specs.private.Marking.{marks_after, no_marks}
use Rattle.pr_expo.proofs.complaints.lint.Given as goal

-- the families left are still to be looked at
abbrev pub invariant-loop-family : goal.invariant-loop-family
invariant-loop-family l = (l.place ≡ l.family-index)
    × (l.marks.items ≡ marks_after (replicate (length l.families) no_marks) l.exposition.lines)
    × (l.problems.items ++ problems_from l.exposition.lines l.place (drop l.family-index l.families) ≡ lint l.exposition)
