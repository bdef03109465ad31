-- The type of a tree, or its first fault.
use Rattle.std.specs.Prelude.{ℕ, nat_eq, nat_le, Bool, true, false, List, [], ◌∷◌, ◌++◌, slice_get, unwrap_or, Option, None, Some, Result, Ok, Err, if◌then◌else◌}
use Rattle.pr_ast.specs.pr_labels.declared.matching.Matching.{Matching}
use Rattle.pr_ast.specs.pr_labels.Names.{is_label_name}
use Rattle.pr_match.specs.Pattern.{is_pattern}
use Rattle.pr_ast.specs.declared.names.BinOp.{BinOp}
use Rattle.pr_ast.specs.declared.names.AggOp.{AggOp}
use Rattle.pr_ast.specs.declared.names.AggOp.TheVariants.{CountValues}
use Rattle.pr_ast.specs.declared.names.Func.{Func}
use Rattle.pr_ast.specs.declared.names.Func.TheVariants.{LabelReplace, LabelJoin}
use Rattle.pr_ast.specs.Tree.{Tree, number, text, select, range, sub, neg, binary, call, aggregate, none, more}
use Rattle.pr_ast.specs.Reach.{reach}
use Rattle.pr_types.specs.declared.kind.ValueType.{ValueType}
use Rattle.pr_types.specs.declared.kind.ValueType.TheVariants.{Scalar, Vector, Range, Text}
use Rattle.pr_types.specs.declared.kind.TypeKind.{TypeKind}
use Rattle.pr_types.specs.declared.kind.TypeKind.TheVariants.{BadPattern, BadLabel, NotInstant, Reach, ZeroStep}
use Rattle.pr_types.specs.declared.kind.TypeFault.{TypeFault}
use Rattle.pr_types.specs.declared.signature.Operand.{Operand}
use Rattle.pr_types.specs.Signatures.{fault, func_signature, agg_signature, accepted}
use Rattle.pr_types.specs.Selectors.{checked_tests}
use Rattle.pr_types.specs.Operations.{instant, over_times, operation_fault, operation_type}

-- the first fault ends
abbrev pub go_on : {A B : Type 0} → (A → Result B TypeFault) → Result A TypeFault → Result B TypeFault
go_on next (Ok a) = next a
go_on next (Err f) = Err f

-- a node's own fault has the node's start
abbrev pub unless : ℕ → Option TypeKind → ValueType → Result ValueType TypeFault
unless at None v = Ok v
unless at (Some k) v = Err (fault at k)

-- where a tree starts
abbrev pub start : Tree → ℕ
start (number p v) = p.start
start (text p t) = p.start
start (select p s) = p.start
start (range p s d) = p.start
start (sub p t d step o) = p.start
start (neg p t) = p.start
start (binary p o b m l r) = p.start
start (call p f ts) = p.start
start (aggregate p o g ts) = p.start
start none = 0
start (more ts t) = 0

abbrev pub operand : ℕ → ValueType → Operand
operand at v = record { at = at; gives = v }

-- the content of a text; nothing for every other tree
abbrev pub content : Tree → List ℕ
content (text p t) = t
content _ = []

-- the contents of arguments
abbrev pub contents : Tree → List (List ℕ)
contents (more ts t) = contents ts ++ content t ∷ []
contents _ = []

-- the content of the argument at a place
abbrev pub content_at : Tree → ℕ → List ℕ
content_at ts i = unwrap_or (slice_get (contents ts) i) []

abbrev pub label_fault : List ℕ → Option TypeKind
label_fault name = if is_label_name name then None else Some BadLabel

abbrev pub replaces : Func → Bool
replaces LabelReplace = true
replaces _ = false

abbrev pub joins : Func → Bool
joins LabelJoin = true
joins _ = false

abbrev pub counts_values : AggOp → Bool
counts_values CountValues = true
counts_values _ = false

-- a text that is taken as a pattern, at the node that starts there
abbrev pub pattern_at : ℕ → List ℕ → Result (List ℕ) TypeFault
pattern_at at t = if is_pattern t then Ok t else Err (fault at BadPattern)

-- the type, unless one of the texts that a function takes is no pattern, or is no name of a label
abbrev pub with_texts : ℕ → Func → Tree → ValueType → Result ValueType TypeFault
with_texts at f ts v =
    if replaces f then go_on (λ p. unless at (label_fault (content_at ts 1)) v) (pattern_at at (content_at ts 4))
    else (if joins f then unless at (label_fault (content_at ts 1)) v else Ok v)

-- a call whose operands have types
abbrev pub typed_call : ℕ → Func → Tree → List Operand → Result ValueType TypeFault
typed_call at f ts os = go_on (with_texts at f ts) (accepted at (func_signature f) os)

-- `count_values` takes its first operand as the name of a label
abbrev pub typed_aggregation : ℕ → AggOp → List ℕ → List Operand → Result ValueType TypeFault
typed_aggregation at o label os =
    go_on (λ v. if counts_values o then unless at (label_fault label) v else Ok v) (accepted at (agg_signature o) os)

-- the step of a subquery, where it has one, is not 0
abbrev pub step_fault : Option ℕ → Option TypeKind
step_fault None = None
step_fault (Some ms) = if nat_eq ms 0 then Some ZeroStep else None

abbrev pub typed_subquery : ℕ → Option ℕ → Operand → Result ValueType TypeFault
typed_subquery at step o = go_on (unless at (step_fault step)) (over_times o)

abbrev pub typed_operation : ℕ → BinOp → Bool → Option Matching → Operand → Operand → Result ValueType TypeFault
typed_operation at o b m l r = go_on (λ v. go_on (λ w. unless at (operation_fault o b m v w) (operation_type v w)) (instant r)) (instant l)

-- The type of a tree, or its first fault: operands are taken first, in the order of the text, and
-- then the node itself. A list of arguments is no expression and has no type, and no other tree is
-- a list of arguments.
abbrev mutual
  pub typed : Tree → Result ValueType TypeFault
  typed (number p v) = Ok Scalar
  typed (text p t) = Ok Text
  typed (select p s) = go_on (λ tests. Ok Vector) (checked_tests p.start s)
  typed (range p s d) = go_on (λ tests. Ok Range) (checked_tests p.start s)
  typed (sub p t d step o) = go_on (λ v. typed_subquery p.start step (operand (start t) v)) (typed t)
  typed (neg p t) = go_on (λ v. instant (operand (start t) v)) (typed t)
  typed (binary p o b m l r) = go_on (λ v. go_on (λ w. typed_operation p.start o b m (operand (start l) v) (operand (start r) w)) (typed r)) (typed l)
  typed (call p f ts) = go_on (typed_call p.start f ts) (operands ts)
  typed (aggregate p o g ts) = go_on (typed_aggregation p.start o (content_at ts 0)) (operands ts)
  typed none = Err (fault 0 NotInstant)
  typed (more ts t) = Err (fault 0 NotInstant)

  pub operands : Tree → Result (List Operand) TypeFault
  operands (more ts t) = go_on (λ os. go_on (λ v. Ok (os ++ operand (start t) v ∷ [])) (typed t)) (operands ts)
  operands none = Ok []
  operands _ = Err (fault 0 NotInstant)

-- samples are kept for 45 days, in milliseconds
abbrev pub kept : ℕ
kept = 3888000000

-- the whole looks no further back than samples are kept
abbrev pub within_kept : Tree → ValueType → Result ValueType TypeFault
within_kept t v = if nat_le (reach t) kept then Ok v else Err (fault 0 (Reach (reach t) kept))

-- the whole is a range or a text
abbrev pub not_instant : Tree → Result ValueType TypeFault
not_instant t = Err (fault (start t) NotInstant)

-- the whole is a scalar or a vector
abbrev pub whole : Tree → ValueType → Result ValueType TypeFault
whole t Range = not_instant t
whole t Text = not_instant t
whole t Scalar = within_kept t Scalar
whole t Vector = within_kept t Vector

-- what a check answers
abbrev pub checked : Tree → Result ValueType TypeFault
checked t = go_on (whole t) (typed t)
