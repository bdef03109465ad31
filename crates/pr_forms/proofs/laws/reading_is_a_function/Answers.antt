use Rattle.pr_forms.proofs.Ending.{given_reads, reads_given}
use Rattle.pr_forms.proofs.laws.reading_is_a_function.Goals as goal

pub returns-clause-reads : goal.returns-clause-reads
returns-clause-reads g c = λ G S rank limit n ts v h k e. given_reads G S h rank limit k n ts v e

pub returns-clause-given : goal.returns-clause-given
returns-clause-given g c = λ G S rank limit n ts v h k d. reads_given G S h rank limit k n ts v d
