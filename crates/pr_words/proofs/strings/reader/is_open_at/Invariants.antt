use Rattle.std.proofs.Common.{length, drop}
use Rattle.pr_words.specs.Strings.{seen}
use Rattle.pr_words.proofs.StringOpen.{Along}
use Rattle.pr_words.proofs.strings.reader.is_open_at.Given as goal

abbrev pub invariant-loop-rest : goal.invariant-loop-rest
invariant-loop-rest l = Along l.mark l.initial.rest l.rest (drop l.place (seen l.text))

abbrev pub decreases-loop-rest : goal.decreases-loop-rest
decreases-loop-rest l = length l.rest
