use Rattle.pr_words.proofs.StringTable.{known}
use Rattle.pr_words.proofs.StringEnds as ending
use Rattle.pr_words.proofs.strings.laws.one_byte_decides.Goals as goal

pub returns-clause-decided : goal.returns-clause-decided
returns-clause-decided c = known

pub returns-clause-ends : goal.returns-clause-ends
returns-clause-ends c = ending.ends
