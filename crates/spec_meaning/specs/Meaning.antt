-- What an expression gives at a moment: a value, or the first fault.
use Rattle.std.specs.Prelude.{ℕ, pos, ◌-ℤ◌, List, [], ◌∷◌, ◌++◌, unwrap_or, Option, Some, None, Result, Ok}
use Rattle.spec_vectors.specs.spec_history.declared.entry.Entry.{Entry}
use Rattle.pr_ast.specs.Tree.{Tree, number, text, select, range, sub, neg, binary, call, aggregate, none, more}
use Rattle.spec_meaning.specs.declared.fault.Fault.{Fault}
use Rattle.spec_meaning.specs.declared.value.Value.{Value}
use Rattle.spec_meaning.specs.declared.value.Value.TheVariants.{Scalar, Vector}
use Rattle.spec_meaning.specs.Answers.{go_on}
use Rattle.spec_meaning.specs.Selection.{selection}
use Rattle.spec_meaning.specs.Operations.{negated_value, operated}
use Rattle.spec_meaning.specs.Given.{Given, Ranged, range_at}
use Rattle.spec_meaning.specs.Calls.{value_of_call}
use Rattle.spec_meaning.specs.Aggregations.{summed_up}
use Rattle.spec_meaning.specs.Subqueries.{subquery_ranges}

-- What is no value: a text, a range, a list of arguments. An expression that has a type is none of
-- these.
abbrev pub nothing : Result Value Fault
nothing = Ok (Vector [])

abbrev pub given : Option Ranged → Value → Given
given ranges v = record { value = v; ranges = ranges }

-- Operands are taken in the order of the text, and the first fault ends; a node's own fault comes
-- after those of all its operands, and has its place. A range selector has no fault as an operand,
-- and a subquery those of its expression. Nothing is kept from one moment to the next. The step is
-- that of subqueries which give none.
abbrev mutual
  pub meaning : ℕ → List Entry → Tree → ℕ → Result Value Fault
  meaning step history (number p v) time = Ok (Scalar v)
  meaning step history (select p s) time = Ok (Vector (selection history s time))
  meaning step history (neg p t) time = go_on (negated_value p) (meaning step history t time)
  meaning step history (binary p o b m l r) time = go_on (λ v. go_on (operated p o b m v) (meaning step history r time)) (meaning step history l time)
  meaning step history (call p f ts) time = go_on (value_of_call history p f ts time) (operands step history ts time)
  meaning step history (aggregate p o g ts) time = go_on (summed_up p o g ts) (operands step history ts time)
  meaning step history (text p t) time = nothing
  meaning step history (range p s d) time = nothing
  meaning step history (sub p t d i o) time = nothing
  meaning step history none time = nothing
  meaning step history (more ts t) time = nothing

  -- what the arguments give, one after the other
  pub operands : ℕ → List Entry → Tree → ℕ → Result (List Given) Fault
  operands step history (more ts t) time =
      go_on (λ gs. go_on (λ r. go_on (λ v. Ok (gs ++ given r v ∷ [])) (meaning step history t time)) (ranges step history t time)) (operands step history ts time)
  operands step history _ time = Ok []

  -- the series of a range selector or a subquery
  pub ranges : ℕ → List Entry → Tree → ℕ → Result (Option Ranged) Fault
  ranges step history (range p s d) time = Ok (Some (range_at history p s d time))
  ranges step history (sub p t d i o) time =
      go_on (λ r. Ok (Some r)) (subquery_ranges p (meaning step history t) (unwrap_or i step) ((pos time -ℤ pos o) -ℤ pos d) (pos time -ℤ pos o))
  ranges step history _ time = Ok None
