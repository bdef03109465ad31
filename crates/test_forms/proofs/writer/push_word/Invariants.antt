use Rattle.std.proofs.Common.{◌≡◌, ◌++◌, ◌∷◌, length}
use Prim.Native.Char.{code}
use Rattle.test_forms.specs.private.Words.{escaped}
use Rattle.test_forms.proofs.writer.push_word.Given as goal

abbrev pub invariant-loop-byte : goal.invariant-loop-byte
invariant-loop-byte l = l.out.items ++ escaped l.left ≡ l.fn.out.items ++ code "\"" ∷ escaped l.fn.bytes

abbrev pub decreases-loop-byte : goal.decreases-loop-byte
decreases-loop-byte l = length l.left
