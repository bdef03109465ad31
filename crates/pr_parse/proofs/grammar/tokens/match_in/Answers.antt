use Rattle.pr_forms.proofs.Taking.{taking}
use Rattle.pr_parse.specs.Seen.{see}
use Rattle.pr_parse.specs.Grammar.{production, match_at, match_sign}
use Rattle.pr_parse.specs.GrammarTable.{table}
use Rattle.pr_parse.proofs.grammar.tokens.match_in.Goals as goal

pub returns-clause-read : goal.returns-clause-read
returns-clause-read c = taking see production table match_at match_sign (λ x. x.0) (λ x. x.1.now) c.take.result _ c.take.ensures (λ x r h. h)
