use Rattle.pr_words.proofs.Written.{quoted_reads}
use Rattle.pr_words.proofs.strings.laws.quoted_texts_read_back.Goals as goal

pub returns : goal.returns
returns c = λ bytes rest. quoted_reads bytes rest
