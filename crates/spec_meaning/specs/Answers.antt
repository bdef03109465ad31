-- What a node gives, and how it goes on from what its operands give.
use Rattle.std.specs.Prelude.{List, Result, Ok, Err}
use Rattle.pr_num.specs.declared.value.Num.{Num}
use Rattle.pr_num.specs.declared.value.TooWide.{TooWide}
use Rattle.pr_ast.specs.pr_labels.declared.item.Item.{Item}
use Rattle.pr_ast.specs.declared.place.Place.{Place}
use Rattle.spec_vectors.specs.declared.match_fault.MatchFault.{MatchFault}
use Rattle.spec_vectors.specs.declared.match_fault.MatchFault.TheVariants as match
use Rattle.spec_vectors.specs.declared.function_fault.FunctionFault.{FunctionFault}
use Rattle.spec_vectors.specs.declared.function_fault.FunctionFault.TheVariants as function
use Rattle.spec_meaning.specs.declared.fault.Fault.{Fault}
use Rattle.spec_meaning.specs.declared.fault.FaultKind.{FaultKind}
use Rattle.spec_meaning.specs.declared.fault.FaultKind.TheVariants as kind
use Rattle.spec_meaning.specs.declared.value.Value.{Value}
use Rattle.spec_meaning.specs.declared.value.Value.TheVariants.{Scalar, Vector}

abbrev pub fault : Place → FaultKind → Fault
fault p k = record { place = p; kind = k }

-- the first fault ends
abbrev pub go_on : {A B E : Type 0} → (A → Result B E) → Result A E → Result B E
go_on next (Ok a) = next a
go_on next (Err e) = Err e

-- the faults of vectors, at a node
abbrev pub match_kind : MatchFault → FaultKind
match_kind (match.ManyToMany key) = kind.ManyToMany key
match_kind (match.NotUnique labels) = kind.NotUnique labels
match_kind match.TooWide = kind.TooWide

abbrev pub function_kind : FunctionFault → FaultKind
function_kind (function.SameLabels labels) = kind.SameLabels labels
function_kind function.TooWide = kind.TooWide

-- what is made of values and vectors at a node is its answer
abbrev pub scalar_at : Place → Result Num TooWide → Result Value Fault
scalar_at p (Ok v) = Ok (Scalar v)
scalar_at p (Err w) = Err (fault p kind.TooWide)

abbrev pub joined_at : Place → Result (List (Item Num)) MatchFault → Result Value Fault
joined_at p (Ok items) = Ok (Vector items)
joined_at p (Err f) = Err (fault p (match_kind f))

abbrev pub function_at : Place → Result (List (Item Num)) FunctionFault → Result Value Fault
function_at p (Ok items) = Ok (Vector items)
function_at p (Err f) = Err (fault p (function_kind f))
