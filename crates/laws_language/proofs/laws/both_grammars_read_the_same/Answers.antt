use Rattle.laws_language.proofs.Both.{both}
use Rattle.laws_language.proofs.laws.both_grammars_read_the_same.Goals as goal

pub returns : goal.returns
returns c = both
