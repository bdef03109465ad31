use Rattle.pr_words.proofs.FormsTaking.{taking}
use Rattle.pr_words.specs.Strings.{letter_of}
use Rattle.pr_labels.specs.SeriesGrammar.{production, sign_at, mark}
use Rattle.pr_labels.proofs.SeriesReading.{sign_text}
use Rattle.pr_labels.proofs.series.series.sign_in.Goals as goal
use Rattle.pr_labels.specs.SeriesTable.{table}

pub returns-clause-read : goal.returns-clause-read
returns-clause-read c = taking letter_of production table (sign_at c.args.wanted) (λ _. mark) (λ x. x.0) (λ x. x.1.now) c.take.result _ c.take.ensures (λ x r h. h)

pub returns-clause-text : goal.returns-clause-text
returns-clause-text c = sign_text c.args.wanted (λ x. x.0) (λ x. x.1.now) c.take.result _ c.take.ensures (λ x r h. h)
