use Rattle.pr_forms.proofs.Taking.{taking}
use Rattle.pr_parse.specs.Seen.{see}
use Rattle.pr_parse.specs.Grammar.{production, side_at, sided}
use Rattle.pr_parse.specs.GrammarTable.{table}
use Rattle.pr_parse.proofs.grammar.tokens.side_in.Goals as goal

pub returns-clause-read : goal.returns-clause-read
returns-clause-read c = taking see production table side_at sided (λ x. x.0) (λ x. x.1.now) c.take.result _ c.take.ensures (λ x r h. h)
