use Rattle.pr_forms.proofs.Taking.{taking}
use Rattle.pr_words.specs.Strings.{production, letter_of, named_at, byte_value}
use Rattle.pr_words.proofs.strings.reader.named_in.Goals as goal
use Rattle.pr_words.specs.StringTable.{table}

pub returns-clause-read : goal.returns-clause-read
returns-clause-read c = taking letter_of production table (named_at c.args.mark) byte_value (λ x. x.0) (λ x. x.1.now) c.take.result _ c.take.ensures (λ x r h. h)
