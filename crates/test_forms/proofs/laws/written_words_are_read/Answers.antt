use Rattle.test_forms.proofs.WordsWritten.{written_reads}
use Rattle.test_forms.proofs.laws.written_words_are_read.Goals as goal

pub returns : goal.returns
returns c = written_reads
