use Rattle.std.proofs.Common.{◌≡◌, ◌+◌, length}
use Rattle.test_forms.specs.private.Tree.{seen}
use Rattle.test_forms.specs.private.Depth.{limit, first_too_deep, later_by}
use Rattle.test_forms.proofs.depth.first_too_deep.Given as goal

abbrev pub invariant-loop-first : goal.invariant-loop-first
invariant-loop-first l = record {
  deep : first_too_deep limit (seen l.tokens) ≡ later_by l.place (first_too_deep l.may (seen l.left));
  passed : l.place + length l.left ≡ length l.tokens;
}

abbrev pub decreases-loop-first : goal.decreases-loop-first
decreases-loop-first l = length l.left
