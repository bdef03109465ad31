use Rattle.laws_language.proofs.Both.{one_bad_place}
use Rattle.laws_language.proofs.laws.both_grammars_have_the_same_bad_place.Goals as goal

pub returns : goal.returns
returns c = one_bad_place
