use Rattle.std.proofs.Common.{◌≡◌, ◌++◌, length}
use Rattle.test_forms.specs.private.Words.{written, written_after}
use Rattle.test_forms.specs.private.TextReader.{bytes_of}
use Rattle.test_forms.proofs.writer.write_words.Given as goal

abbrev pub invariant-loop-word : goal.invariant-loop-word
invariant-loop-word l = l.out.items ++ written_after (bytes_of l.left) ≡ written (bytes_of l.fn.words)

abbrev pub decreases-loop-word : goal.decreases-loop-word
decreases-loop-word l = length l.left
