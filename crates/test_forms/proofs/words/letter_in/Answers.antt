use Rattle.std.proofs.Common.{ap}
use Rattle.std.specs.Prelude.{option_map}
use Rattle.pr_forms.proofs.Choosing.{choosing}
use Rattle.test_forms.specs.private.Glyphs.{glyph_of}
use Rattle.test_forms.specs.private.Words.{letter_at, letters_with}
use Rattle.test_forms.proofs.words.letter_in.Goals as goal

pub returns-clause-read : goal.returns-clause-read
returns-clause-read c = λ before. choosing glyph_of (letter_at before) (letters_with before) (λ x. x.0) (λ x. x.1.now) c.take.result _ c.take.ensures (λ x r h. ap (option_map (letters_with before)) h)
