use Rattle.laws_language.proofs.Both.{both_begin}
use Rattle.laws_language.proofs.laws.both_grammars_begin_the_same.Goals as goal

pub returns : goal.returns
returns c = both_begin
