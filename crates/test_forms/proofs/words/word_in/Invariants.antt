use Rattle.std.proofs.Common.{length}
use Rattle.pr_forms.specs.Form.{rule}
use Rattle.pr_forms.specs.Language.{Leads}
use Rattle.test_forms.specs.private.Words.{lists, Word, Rest}
use Rattle.test_forms.proofs.words.word_in.Given as goal

abbrev pub invariant-loop-byte : goal.invariant-loop-byte
invariant-loop-byte l = Leads lists (rule Word) l.text (rule (Rest l.bytes.items)) l.rest

abbrev pub decreases-loop-byte : goal.decreases-loop-byte
decreases-loop-byte l = length l.rest
