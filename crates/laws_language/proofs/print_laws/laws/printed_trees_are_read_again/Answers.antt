use Rattle.laws_language.proofs.Printed.{has_kinds, has_tree}
use Rattle.laws_language.proofs.print_laws.laws.printed_trees_are_read_again.Goals as goal

pub returns-clause-tokens : goal.returns-clause-tokens
returns-clause-tokens c = has_kinds

pub returns-clause-again : goal.returns-clause-again
returns-clause-again c = has_tree
