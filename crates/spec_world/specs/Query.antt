-- What becomes of an expression that is asked for.
use Rattle.std.specs.Prelude.{ℕ, List, [], Result, Ok, Err}
use Rattle.spec_vectors.specs.spec_history.declared.entry.Entry.{Entry}
use Rattle.pr_ast.specs.Tree.{Tree}
use Rattle.pr_rulefile.specs.pr_parse.Expressions.{ExpressionFault, expression_of}
use Rattle.spec_rules.specs.spec_meaning.declared.fault.Fault.{Fault}
use Rattle.spec_rules.specs.spec_meaning.declared.value.Value.{Value}
use Rattle.spec_rules.specs.spec_meaning.declared.value.Value.TheVariants as value
use Rattle.spec_rules.specs.spec_meaning.Meaning.{meaning}
use Rattle.spec_world.specs.declared.report.Report.{Report}
use Rattle.spec_world.specs.declared.report.Report.TheVariants.{Scalar, Vector, QueryFault, QueryRefused}
use Rattle.spec_world.specs.Outcome.{EventOutcome, refuse, accept, nothing_else}
use Rattle.spec_world.specs.Settings.{Settings}

-- a value is told, and so is a fault, with the place at which the part begins that has it
abbrev pub told_value : Value → Report
told_value (value.Scalar v) = Scalar v
told_value (value.Vector items) = Vector items

abbrev pub told_answer : Result Value Fault → Report
told_answer (Ok v) = told_value v
told_answer (Err f) = QueryFault f.place.start f.kind

-- An expression with a type is accepted, be its answer a value or a fault, and adds nothing; a text
-- that is none is refused.
abbrev pub expression_outcome : Settings → List Entry → ℕ → Result Tree ExpressionFault → EventOutcome
expression_outcome s history time (Ok tree) = accept (told_answer (meaning s.subquery_step history tree time)) [] nothing_else
expression_outcome s history time (Err f) = refuse (QueryRefused f.at f.kind)

abbrev pub query_outcome : Settings → List Entry → ℕ → List ℕ → EventOutcome
query_outcome s history time text = expression_outcome s history time (expression_of text)
