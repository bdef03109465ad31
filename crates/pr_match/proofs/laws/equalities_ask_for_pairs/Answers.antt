use Rattle.pr_match.proofs.Equalities.{equalities}
use Rattle.pr_match.proofs.laws.equalities_ask_for_pairs.Goals as goal

pub returns : goal.returns
returns c = equalities
