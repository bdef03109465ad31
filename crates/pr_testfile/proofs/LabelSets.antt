-- The label set of pairs, or none where one of them has a fault.
use Rattle.std.proofs.Common.{◌≡◌, ◌≢◌, ℕ, List, [], Option, Some, None, refl}
use Rattle.pr_ast.specs.pr_labels.declared.fault.LabelFault.{LabelFault}
use Rattle.pr_ast.specs.pr_labels.declared.fault.LabelFault.TheVariants.{BadName, Twice, Memory}
use Rattle.pr_ast.specs.pr_labels.declared.pair.Pair.{Pair}
use Rattle.pr_ast.specs.pr_labels.Edits.{labels_of, first_fault}
use Rattle.pr_testfile.specs.Labels.{unless_faulty}

pub no_fault : (pairs : List Pair) → first_fault pairs ≡ None → unless_faulty pairs (first_fault pairs) ≡ labels_of pairs
no_fault pairs h = rw h refl

a_fault : (pairs : List Pair) (f : LabelFault) → first_fault pairs ≡ Some f → unless_faulty pairs (first_fault pairs) ≡ []
a_fault pairs f h = rw h refl

pub bad_name : (pairs : List Pair) (i : ℕ) → (BadName i ≢ Memory → first_fault pairs ≡ Some (BadName i)) → unless_faulty pairs (first_fault pairs) ≡ []
bad_name pairs i h = a_fault pairs (BadName i) (h (λ e. cc))

pub name_twice : (pairs : List Pair) (i : ℕ) → (Twice i ≢ Memory → first_fault pairs ≡ Some (Twice i)) → unless_faulty pairs (first_fault pairs) ≡ []
name_twice pairs i h = a_fault pairs (Twice i) (h (λ e. cc))
