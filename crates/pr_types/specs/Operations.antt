-- The types of operations, and their faults.
use Rattle.std.specs.Prelude.{ℕ, Bool, true, false, not, ◌&&◌, ◌||◌, List, Option, None, Some, is_some, Result, Ok, Err, if◌then◌else◌}
use Rattle.std.specs.List.{list_any}
use Rattle.std.specs.Str.{bytes_eq}
use Rattle.pr_ast.specs.pr_labels.declared.matching.Matching.{Matching}
use Rattle.pr_ast.specs.pr_labels.declared.matching.Card.{Card}
use Rattle.pr_ast.specs.pr_labels.declared.matching.Card.TheVariants.{OneToOne, ManyToOne, OneToMany}
use Rattle.pr_ast.specs.declared.names.BinOp.{BinOp}
use Rattle.pr_ast.specs.declared.names.BinOp.TheVariants.{Or, And, Unless, Equal, NotEqual, LessEqual, Less, GreaterEqual, Greater}
use Rattle.pr_types.specs.declared.kind.ValueType.{ValueType}
use Rattle.pr_types.specs.declared.kind.ValueType.TheVariants.{Scalar, Vector, Range, Text}
use Rattle.pr_types.specs.declared.kind.TypeKind.{TypeKind}
use Rattle.pr_types.specs.declared.kind.TypeKind.TheVariants.{WantVector, BoolNeeded, BoolMisplaced, SetOnScalar, GroupOnSet, MatchOnScalar, CopiedInOn}
use Rattle.pr_types.specs.declared.kind.TypeFault.{TypeFault}
use Rattle.pr_types.specs.declared.signature.Operand.{Operand}
use Rattle.pr_types.specs.Signatures.{fault, is_type}

abbrev pub compares : BinOp → Bool
compares Equal = true
compares NotEqual = true
compares LessEqual = true
compares Less = true
compares GreaterEqual = true
compares Greater = true
compares _ = false

abbrev pub is_set : BinOp → Bool
is_set Or = true
is_set And = true
is_set Unless = true
is_set _ = false

abbrev pub is_scalar : ValueType → Bool
is_scalar Scalar = true
is_scalar _ = false

-- `group_left` or `group_right` is written
abbrev pub is_grouped_card : Card → Bool
is_grouped_card OneToOne = false
is_grouped_card ManyToOne = true
is_grouped_card OneToMany = true

abbrev pub is_grouped : Option Matching → Bool
is_grouped None = false
is_grouped (Some m) = is_grouped_card m.card

abbrev pub has_name : List (List ℕ) → List ℕ → Bool
has_name names name = list_any (bytes_eq name) names

-- a label of `on` stands among those that are copied
abbrev pub copies_key : Option Matching → Bool
copies_key None = false
copies_key (Some m) = m.on && list_any (has_name m.names) m.include

-- the fault of an operation whose operands are scalars or vectors: the first of this list
unfoldable pub operation_fault : BinOp → Bool → Option Matching → ValueType → ValueType → Option TypeKind
operation_fault op with_bool matching left right =
    if compares op && not with_bool && (is_scalar left && is_scalar right) then Some BoolNeeded
    else (if with_bool && not (compares op) then Some BoolMisplaced
    else (if is_set op && (is_scalar left || is_scalar right) then Some SetOnScalar
    else (if is_set op && is_grouped matching then Some GroupOnSet
    else (if is_some matching && (is_scalar left || is_scalar right) then Some MatchOnScalar
    else (if copies_key matching then Some CopiedInOn else None)))))

abbrev pub is_instant : ValueType → Bool
is_instant Scalar = true
is_instant Vector = true
is_instant Range = false
is_instant Text = false

-- a scalar or a vector; nothing else stands under an operator or a minus
abbrev pub instant : Operand → Result ValueType TypeFault
instant o = if is_instant o.gives then Ok o.gives else Err (fault o.at WantVector)

-- a subquery stands on a vector
abbrev pub over_times : Operand → Result ValueType TypeFault
over_times o = if is_type o.gives Vector then Ok Range else Err (fault o.at WantVector)

-- two scalars give a scalar
abbrev pub operation_type : ValueType → ValueType → ValueType
operation_type left right = if is_scalar left && is_scalar right then Scalar else Vector
