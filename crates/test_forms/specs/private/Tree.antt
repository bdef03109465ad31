-- What stands for tokens and trees.
use Rattle.std.specs.Prelude.{ℕ, List, [], ◌∷◌, map, string_bytes}
use Rattle.test_forms.specs.declared.tree.Place.{Place}
use Rattle.test_forms.specs.declared.tree.Sign.{Sign as SignKind}
use Rattle.test_forms.specs.declared.tree.Operator.{Operator}
use Rattle.test_forms.specs.declared.tree.TokenKind.{TokenKind}
use Rattle.test_forms.specs.declared.tree.TokenKind.TheVariants.{Number, Name, Sign}
use Rattle.test_forms.specs.declared.tree.Token.{Token}
use Rattle.test_forms.specs.declared.tree.Expr.{Expr}
use Rattle.test_forms.specs.declared.tree.ExprKind.TheFolds.{fold-Expr}
use Rattle.test_forms.specs.declared.tree.ExprKind.TheOpen.{ExprKind-F, Expr-F, Number as open_Number, Name as open_Name, Negated as open_Negated, Binary as open_Binary, Call as open_Call}

-- A token as the grammar sees it: a name is its bytes.
pub data Seen : Type 0 where
  number_token : Place → ℕ → Seen
  name_token : Place → List ℕ → Seen
  sign_token : SignKind → Place → Seen

abbrev pub seen_kind : Place → TokenKind → Seen
seen_kind p (Number n) = number_token p n
seen_kind p (Name t) = name_token p (string_bytes t)
seen_kind p (Sign s) = sign_token s p

abbrev pub seen_token : Token → Seen
seen_token t = seen_kind t.place t.kind

abbrev pub seen : List Token → List Seen
seen = map seen_token

-- A tree with the places of its parts. The arguments of a call are a tree too: none, or some and
-- one more.
pub data Tree : Type 0 where
  number : Place → ℕ → Tree
  name : Place → List ℕ → Tree
  negated : Place → Tree → Tree
  binary : Place → Operator → Tree → Tree → Tree
  call : Place → List ℕ → Tree → Tree
  none : Tree
  more : Tree → Tree → Tree

abbrev pub more_from : Tree → List Tree → Tree
more_from before [] = before
more_from before (t ∷ ts) = more_from (more before t) ts

abbrev pub kind_step : ExprKind-F (Place → Tree) Tree → Place → Tree
kind_step (open_Number n) p = number p n
kind_step (open_Name t) p = name p (string_bytes t)
kind_step (open_Negated b) p = negated p b.value
kind_step (open_Binary o l r) p = binary p o l.value r.value
kind_step (open_Call n v) p = call p (string_bytes n) (more_from none v.items)

abbrev pub expr_step : Expr-F (Place → Tree) Tree → Tree
expr_step e = e.kind e.place

-- the tree of an expression
abbrev pub tree_of : Expr → Tree
tree_of = fold-Expr (Place → Tree) Tree kind_step expr_step

abbrev pub trees_of : List Expr → Tree
trees_of es = more_from none (map tree_of es)
