use Rattle.spec_meaning.proofs.Meanings.{meaning_answer}
use Rattle.spec_meaning.proofs.laws.answers_are_vectors.Goals as goal

pub returns : goal.returns
returns c = meaning_answer
