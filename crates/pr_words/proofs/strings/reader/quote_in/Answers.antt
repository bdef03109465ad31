use Rattle.pr_forms.proofs.Taking.{taking}
use Rattle.pr_words.specs.Strings.{production, letter_of, quote_at, mark}
use Rattle.pr_words.proofs.strings.reader.quote_in.Goals as goal
use Rattle.pr_words.specs.StringTable.{table}

pub returns-clause-read : goal.returns-clause-read
returns-clause-read c = taking letter_of production table (quote_at c.args.mark) (λ _. mark) (λ x. x.0) (λ x. x.1.now) c.take.result _ c.take.ensures (λ x r h. h)
