use Rattle.laws_language.proofs.Again.{parsed_again}
use Rattle.laws_language.proofs.print_laws.laws.printed_trees_are_parsed_again.Goals as goal

pub returns : goal.returns
returns c = parsed_again
