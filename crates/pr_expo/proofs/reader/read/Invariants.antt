use Rattle.std.proofs.Common.{length}
use Rattle.pr_expo.specs.private.Keeping.{IsUnderWay}
use Rattle.pr_expo.proofs.reader.read.Given as goal

-- the lines so far were read and kept
abbrev pub invariant-loop-draft : goal.invariant-loop-draft
invariant-loop-draft l = IsUnderWay l.bytes l.draft.families l.draft.lines.items l.number l.rest

abbrev pub decreases-loop-draft : goal.decreases-loop-draft
decreases-loop-draft l = length l.rest
