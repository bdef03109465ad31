-- What is known of the parts of a tree that has a type.
use Rattle.std.specs.Prelude.{◌≡◌, ℕ, ◌≤◌, Bool, true, false, List, [], ◌∷◌, ◌++◌, length, slice_get, Option, None, Some, Ok}
use Rattle.pr_ast.specs.pr_labels.declared.matching.Matching.{Matching}
use Rattle.pr_ast.specs.declared.names.BinOp.{BinOp}
use Rattle.pr_ast.specs.Tree.{Tree, number, text, select, range, sub, neg, binary, call, aggregate, none, more}
use Rattle.pr_types.specs.declared.kind.ValueType.{ValueType}
use Rattle.pr_types.specs.declared.kind.ValueType.TheVariants.{Scalar, Vector, Range, Text}
use Rattle.pr_types.specs.declared.signature.Signature.{Signature}
use Rattle.pr_types.specs.Signatures.{is_type, wanted}
use Rattle.pr_types.specs.Operations.{is_instant, operation_fault, operation_type}
use Rattle.pr_types.specs.Typed.{typed}

-- the arguments of a tree of arguments, as a list
abbrev pub arguments : Tree → List Tree
arguments (more ts t) = arguments ts ++ t ∷ []
arguments _ = []

-- the arguments are as many as the signature wants, and each has the type that it wants there
pub record AreArguments (s : Signature) (ts : List Tree) : Type 0 where
  pub at_least : s.least ≤ length ts
  pub at_most : length ts ≤ s.most
  pub types : (i : ℕ) (t : Tree) → slice_get ts i ≡ Some t → typed t ≡ Ok (wanted s i)

-- both operands have types, each a scalar or a vector, and the operation has no fault of its own
pub record AreOperands (op : BinOp) (with_bool : Bool) (matching : Option Matching) (l r : Tree) (v a b : ValueType) : Type 0 where
  pub left : typed l ≡ Ok a
  pub right : typed r ≡ Ok b
  pub left_instant : is_instant a ≡ true
  pub right_instant : is_instant b ≡ true
  pub no_fault_of_its_own : operation_fault op with_bool matching a b ≡ None
  pub gives : operation_type a b ≡ v

-- which types a tree may have by its outermost node
abbrev pub may_give : Tree → ValueType → Bool
may_give (number p n) v = is_type v Scalar
may_give (text p t) v = is_type v Text
may_give (select p s) v = is_type v Vector
may_give (range p s d) v = is_type v Range
may_give (sub p t d step o) v = is_type v Range
may_give (neg p t) v = is_instant v
may_give (binary p o b m l r) v = is_instant v
may_give (call p f ts) v = is_instant v
may_give (aggregate p o g ts) v = is_type v Vector
may_give none v = false
may_give (more ts t) v = false
