-- The answer to a query, by what its text, its tree and its value are.
use Rattle.std.proofs.Common.{◌≡◌, ℕ, ◌+◌, ◌≤◌, List, [], Option, Some, None, Result, Ok, Err, refl, sym, ap, subst, arith}
use Rattle.pr_labels.specs.declared.pair.Pair.{Pair}
use Rattle.pr_head.specs.spec_history.declared.entry.Entry.{Entry}
use Rattle.pr_head.specs.private.Stored.{Stored}
use Rattle.pr_ast.specs.declared.place.Place.{Place}
use Rattle.pr_ast.specs.Tree.{Tree}
use Rattle.pr_ast.specs.Reach.{reads_back}
use Rattle.pr_manager.specs.pr_group.private.Keeping.{MayEvaluateOver}
use Rattle.pr_manager.specs.pr_types.private.Checking.{MayEvaluate}
use Rattle.pr_manager.specs.spec_meaning.declared.fault.Fault.{Fault}
use Rattle.pr_manager.specs.spec_meaning.declared.fault.FaultKind.{FaultKind}
use Rattle.pr_manager.specs.spec_meaning.declared.value.Value.{Value}
use Rattle.pr_manager.specs.spec_meaning.Answers.{fault}
use Rattle.pr_manager.specs.spec_meaning.private.Cost.{cost, nothing_passed}
use Rattle.pr_manager.specs.spec_meaning.Meaning.{meaning}
use Rattle.pr_manager.specs.pr_eval.private.Looks.{KeepsFor}
use Rattle.pr_manager.specs.pr_eval.private.Asking.{Sought}
use Rattle.pr_manager.specs.pr_eval.private.Evaluated.{AreReady, IsReadyFor, MayBegin, asks_of}
use Rattle.pr_manager.specs.spec_world.declared.report.Report.TheVariants.{QueryFault, QueryRefused}
use Rattle.pr_manager.specs.spec_world.Outcome.{refuse}
use Rattle.pr_manager.specs.spec_world.Query.{expression_outcome, told_answer, told_value}
use Rattle.pr_manager.specs.pr_parse.Expressions.{ExpressionFault, expression_fault}
use Rattle.pr_manager.specs.pr_parse.declared.query_kind.QueryKind.{QueryKind}
use Rattle.pr_manager.specs.spec_world.Settings.{Settings}
use Rattle.pr_engine.specs.private.Events.{expression_cost}
use Rattle.pr_engine.specs.private.Taken.{HasOutcome, added_in, report_in}
use Rattle.pr_engine.specs.private.Times.{forgotten_at}
use Rattle.pr_engine.specs.declared.taken.Taken.{Taken}
use Rattle.pr_engine.proofs.Times.{back_enough}

-- a head keeps what an expression looks at that may be evaluated
pub keeps_for : (head : List (List Pair × Stored)) (history : List Entry) (t : Tree) (time : ℕ) → MayEvaluateOver head history time → MayEvaluate t → KeepsFor head history t time
keeps_for head history t time h may = record {
  lawful = h.lawful;
  holds = h.holds;
  forgotten = forgotten_at time;
  whole = h.whole;
  back = back_enough time (reads_back t) may.reaches;
}

-- Where nothing is remembered, everything may be asked.
nothing_kept : (node : ℕ) (asks : List (Option Sought)) → AreReady (λ k s. None) node asks
nothing_kept node asks = λ i q e. by (node + i) q where
  by : (k : ℕ) (q : Option Sought) → IsReadyFor (λ k s. None) k q
  by k None = tt
  by k (Some q) = λ s b e. absurd cc

pub may_begin : (head : List (List Pair × Stored)) (history : List Entry) (t : Tree) (time : ℕ) → MayEvaluateOver head history time → MayEvaluate t
    → MayBegin head history t time (Unit {0}) (λ k s. None)
may_begin head history t time h may = record { keeps = keeps_for head history t time h may; fits = tt; ready = nothing_kept 0 (asks_of history t time) }

-- what is told of an answer
pub told_ok : (meant : Result Value Fault) (v : Value) → meant ≡ Ok v → told_value v ≡ told_answer meant
told_ok meant v h = ap told_answer (sym h)

pub told_fault : (meant : Result Value Fault) (place : Place) (kind : FaultKind) → meant ≡ Err (fault place kind) → QueryFault place.start kind ≡ told_answer meant
told_fault meant place kind h = ap told_answer (sym h)

-- whether its text is an expression
pub expression_answer : (s : Settings) (history : List Entry) (time : ℕ) (r : Result Tree ExpressionFault) (t : Tree) (a : Taken) → r ≡ Ok t
    → report_in a ≡ told_answer (meaning s.subquery_step history t time) → added_in a ≡ [] → HasOutcome (expression_outcome s history time r) a
expression_answer s history time r t a is k n = subst (λ q. HasOutcome (expression_outcome s history time q) a) (sym is) (k, n, refl, refl)

pub refused_answer : (s : Settings) (history : List Entry) (time : ℕ) (r : Result Tree ExpressionFault) (at : ℕ) (kind : QueryKind) (a : Taken) → r ≡ Err (expression_fault at kind)
    → HasOutcome (refuse (QueryRefused at kind)) a → HasOutcome (expression_outcome s history time r) a
refused_answer s history time r at kind a is k = subst (λ q. HasOutcome (expression_outcome s history time q) a) (sym is) k

-- what is read for it
pub expression_reads : (step : ℕ) (history : List Entry) (time : ℕ) (r : Result Tree ExpressionFault) (t : Tree) (before now : ℕ) → r ≡ Ok t
    → now ≤ before + cost step history nothing_passed t 0 time → now ≤ before + expression_cost step history time r
expression_reads step history time r t before now is few = subst (λ q. now ≤ before + expression_cost step history time q) (sym is) few

pub no_reads : (before more : ℕ) → before ≤ before + more
no_reads before more = omega arith
