use Rattle.laws_language.proofs.Taking.{takes_last}
use Rattle.laws_language.proofs.names_laws.laws.each_beginning_takes_its_last_token.Goals as goal

pub returns : goal.returns
returns g c = takes_last
