use Rattle.pr_words.proofs.FormsTaking.{taking}
use Rattle.pr_yaml.specs.Grammar.{production, letter_of, mark, map_close_in}
use Rattle.pr_yaml.specs.GrammarTable.{table}
use Rattle.pr_yaml.proofs.tokens.map_close_in.Goals as goal

pub returns-clause-read : goal.returns-clause-read
returns-clause-read c = λ distinct. taking letter_of (production distinct) (table distinct) map_close_in (λ _. mark) (λ x. x.0) (λ x. x.1.now) c.take.result _ c.take.ensures (λ x r h. h)
