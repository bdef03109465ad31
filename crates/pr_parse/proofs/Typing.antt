-- A tree that is checked is the tree of its text.
use Rattle.std.proofs.Common.{◌≡◌, true, Result, Ok, Err, is_ok, refl}
use Rattle.pr_ast.specs.Tree.{Tree}
use Rattle.pr_types.specs.declared.kind.ValueType.{ValueType}
use Rattle.pr_types.specs.declared.kind.TypeFault.{TypeFault}
use Rattle.pr_parse.specs.Expressions.{typed_tree}

pub typed_so : (t : Tree) (r : Result ValueType TypeFault) → is_ok r ≡ true → typed_tree t r ≡ Ok t
typed_so t (Ok v) h = refl
typed_so t (Err f) h = cc
