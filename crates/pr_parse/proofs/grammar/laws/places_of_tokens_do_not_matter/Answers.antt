use Rattle.pr_parse.proofs.PlacesLaw.{derived_elsewhere}
use Rattle.pr_parse.proofs.grammar.laws.places_of_tokens_do_not_matter.Goals as goal

pub returns : goal.returns
returns c = derived_elsewhere
