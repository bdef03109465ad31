use Rattle.pr_forms.proofs.Taking.{taking}
use Rattle.test_forms.specs.private.Glyphs.{glyph_of}
use Rattle.test_forms.specs.private.Words.{production, table, comma_at, mark}
use Rattle.test_forms.proofs.words.after_comma.Goals as goal

pub returns-clause-read : goal.returns-clause-read
returns-clause-read c = taking glyph_of production table comma_at (λ _. mark) (λ x. x.0) (λ x. x.1.now) c.take.result _ c.take.ensures (λ x r h. h)
