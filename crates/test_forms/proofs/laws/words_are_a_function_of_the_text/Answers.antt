use Rattle.test_forms.proofs.WordsWritten.{words_read, words_given, place_given}
use Rattle.test_forms.proofs.laws.words_are_a_function_of_the_text.Goals as goal

pub returns-clause-reads : goal.returns-clause-reads
returns-clause-reads c = words_read

pub returns-clause-given : goal.returns-clause-given
returns-clause-given c = words_given

pub returns-clause-place : goal.returns-clause-place
returns-clause-place c = place_given
