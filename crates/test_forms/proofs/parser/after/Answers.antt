use Rattle.pr_forms.proofs.Taking.{taking}
use Rattle.test_forms.specs.private.Tree.{seen_token}
use Rattle.test_forms.specs.private.Grammar.{production, table, sign_at, at}
use Rattle.test_forms.proofs.parser.after.Goals as goal

pub returns-clause-read : goal.returns-clause-read
returns-clause-read c = taking seen_token production table (sign_at c.args.wanted) at (λ x. x.0) (λ x. x.1.now) c.take.result _ c.take.ensures (λ x r h. h)
