use Rattle.pr_words.proofs.Decimals.{printed_of_read, read_of_printed}
use Rattle.pr_words.proofs.laws.plain_decimals_are_printed_numbers.Goals as goal

pub returns-clause-read : goal.returns-clause-read
returns-clause-read c = read_of_printed

pub returns-clause-below : goal.returns-clause-below
returns-clause-below c = λ limit n text h e. (printed_of_read limit n text h e).0

pub returns-clause-only : goal.returns-clause-only
returns-clause-only c = λ limit n text h e. (printed_of_read limit n text h e).1
