use Rattle.std.proofs.Common.{length}
use Rattle.pr_forms.specs.Form.{rule, turns}
use Rattle.pr_forms.specs.Language.{Leads}
use Rattle.test_forms.specs.private.Words.{lists, Words, words, appended, next_word}
use Rattle.test_forms.specs.private.TextReader.{bytes_of}
use Rattle.test_forms.proofs.words.words_in.Given as goal

abbrev pub invariant-loop-after : goal.invariant-loop-after
invariant-loop-after l = Leads lists (rule Words) l.text (turns appended (words (bytes_of l.list.items)) next_word) l.rest

abbrev pub decreases-loop-after : goal.decreases-loop-after
decreases-loop-after l = length l.rest
