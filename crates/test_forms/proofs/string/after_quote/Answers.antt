use Rattle.pr_forms.proofs.Taking.{taking}
use Rattle.test_forms.specs.private.Glyphs.{part_of}
use Rattle.test_forms.specs.private.Quoted.{production, table, quote_at, mark}
use Rattle.test_forms.proofs.string.after_quote.Goals as goal

pub returns-clause-read : goal.returns-clause-read
returns-clause-read c = taking part_of production table quote_at (λ _. mark) (λ x. x.0) (λ x. x.1.now) c.take.result _ c.take.ensures (λ x r h. h)
