use Rattle.laws_language.proofs.Again.{typed_shallow, checked_shallow}
use Rattle.laws_language.proofs.print_laws.laws.typed_trees_of_34_nodes_are_printed_shallow.Goals as goal

pub returns-clause-typed : goal.returns-clause-typed
returns-clause-typed c = typed_shallow

pub returns-clause-checked : goal.returns-clause-checked
returns-clause-checked c = checked_shallow
