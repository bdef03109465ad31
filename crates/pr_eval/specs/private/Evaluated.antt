-- Which expressions may be evaluated, and what is known of ranges and reads after it.
use Rattle.std.specs.Prelude.{◌≡◌, ◌≢◌, ℕ, ◌+◌, ◌<◌, ◌≤◌, ◌≤ℤ◌, ◌⊎◌, ◌&&◌, Bool, true, false, cond, List, length, take, Option, Some, None, Result, Err, is_ok}
use Rattle.pr_labels.specs.declared.pair.Pair.{Pair}
use Rattle.pr_range.specs.spec_history.declared.entry.Entry.{Entry}
use Rattle.pr_range.specs.spec_history.private.Laws.{entries_until}
use Rattle.pr_range.specs.pr_head.private.Stored.{Stored}
use Rattle.pr_range.specs.pr_head.private.Holds.{arrivals, labels_at}
use Rattle.pr_ast.specs.Tree.{Tree}
use Rattle.pr_range.specs.private.Asks.{LastAsk, LastAsks, Passed}
use Rattle.spec_meaning.specs.private.Cost.{PassedFor, cost}
use Rattle.pr_eval.specs.declared.values.error.EvalError.{EvalError}
use Rattle.pr_eval.specs.declared.values.error.EvalError.TheVariants.{Memory}
use Rattle.pr_range.specs.spec_vectors.declared.range.RangeFn.{RangeFn}
use Rattle.pr_range.specs.spec_vectors.declared.range.RangeFn.TheVariants.{PresentOverTime}
use Rattle.pr_eval.specs.private.RangeCallsAsking.{is_number_among, series_number}
use Rattle.pr_eval.specs.private.Asking.{Sought, asks_in}
use Rattle.pr_eval.specs.private.Each.{EachAt}
use Rattle.pr_eval.specs.private.Looks.{KeepsFor}

-- what was passed of a series, found by its labels; inside a subquery nothing was
abbrev pub passed_outside : Bool → List Entry → Passed → PassedFor
passed_outside inside history passed k labels = cond inside 0 (passed k (series_number history labels))

-- The ask may follow the last ones of its range selector: the function stays, and the range does
-- not begin or end earlier.
abbrev pub MayFollow : LastAsk → (ℕ → Option LastAsk) → Type 0
MayFollow a last = (s : ℕ) (b : LastAsk) → last s ≡ Some b → (b.func ≡ a.func) × ((b.from ≤ℤ a.from) × (b.to ≤ℤ a.to))

abbrev pub IsReadyFor : LastAsks → ℕ → Option Sought → Type 0
IsReadyFor last k None = Unit {0}
IsReadyFor last k (Some q) = MayFollow q.ask (last k)

-- each of these may be asked
abbrev pub AreReady : LastAsks → ℕ → List (Option Sought) → Type 0
AreReady last node asks = EachAt (IsReadyFor last) node asks

-- An expression that may be evaluated: the head tells all that it looks at, what is kept of ranges
-- is true, and what it asks may come.
pub record MayEval (head : List (List Pair × Stored)) (history : List Entry) (t : Tree) (time : ℕ) (asks : List (Option Sought)) (node : ℕ) (Fits : Type 0) (last : LastAsks) : Type 0 where
  pub keeps : KeepsFor head history t time
  pub fits : Fits
  pub ready : AreReady last node asks

-- what ranges remember, as a pair
pub record KeptOfRanges : Type 0 where
  pub last : LastAsks
  pub passed : Passed

-- what is kept for a range selector is as it was
pub record IsSame (k : ℕ) (before after : KeptOfRanges) : Type 0 where
  pub last : after.last k ≡ before.last k
  pub passed : after.passed k ≡ before.passed k

-- Where asks are remembered, this is the last one of each of these series of a range selector, and
-- all of the series until its end count as passed; what is known of other series stays.
pub record AreRowsAsked (keeps : Bool) (history : List Entry) (a : LastAsk) (numbers : List ℕ) (last last' : ℕ → Option LastAsk) (passed passed' : ℕ → ℕ) : Type 0 where
  pub asks : (s : ℕ) → last' s ≡ cond (keeps && is_number_among s numbers) (Some a) (last s)
  pub passing : (s : ℕ) → passed' s ≡ cond (keeps && is_number_among s numbers) (entries_until history (labels_at (arrivals history) s) a.to) (passed s)

-- Each chosen series of a range selector was asked, or the first of them until a fault.
abbrev pub AreAskedSeries : Bool → Bool → List Entry → Sought → (ℕ → Option LastAsk) → (ℕ → Option LastAsk) → (ℕ → ℕ) → (ℕ → ℕ) → Type 0
AreAskedSeries true keeps history q last last' passed passed' = AreRowsAsked keeps history q.ask q.numbers last last' passed passed'
AreAskedSeries false keeps history q last last' passed passed' = (n : ℕ) × AreRowsAsked keeps history q.ask (take n q.numbers) last last' passed passed'

abbrev pub IsAsked : Bool → List Entry → Bool → KeptOfRanges → KeptOfRanges → ℕ → Option Sought → Type 0
IsAsked keeps history whole before after k None = IsSame k before after
IsAsked keeps history whole before after k (Some q) = AreAskedSeries whole keeps history q (before.last k) (after.last k) (before.passed k) (after.passed k)

-- The range selectors from a number on were asked these, and all others nothing.
pub record AreAllAsked (keeps : Bool) (history : List Entry) (whole : Bool) (asks : List (Option Sought)) (node : ℕ) (before after : KeptOfRanges) : Type 0 where
  pub others : (k : ℕ) → (k < node) ⊎ (node + length asks ≤ k) → IsSame k before after
  pub own : EachAt (IsAsked keeps history whole before after) node asks

-- What is known after a part was evaluated, but for its answer: how many samples were read at most,
-- and where memory did not run out, that what is kept of ranges is true, and what was asked.
pub record HasEvaluated {A : Type 0} (keeps : Bool) (history : List Entry) (asks : List (Option Sought)) (node most : ℕ) (before after : KeptOfRanges) (Fits : Type 0) (reads reads' : ℕ) (result : Result A EvalError) : Type 0 where
  pub few : reads' ≤ reads + most
  pub fits : result ≢ Err Memory → Fits
  pub asked : result ≢ Err Memory → AreAllAsked keeps history (is_ok result) asks node before after

-- The same of an expression at a time, whose first range selector has the number `node`, inside a
-- subquery or not.
abbrev pub MayTake : List (List Pair × Stored) → Bool → List Entry → RangeFn → Tree → ℕ → ℕ → Type 0 → LastAsks → Type 0
MayTake head inside history func t time node Fits last = MayEval head history t time (asks_in inside history func t time) node Fits last

abbrev pub IsEvaluated : {A : Type 0} → Bool → Bool → ℕ → List Entry → RangeFn → Tree → ℕ → ℕ → KeptOfRanges → KeptOfRanges → Type 0 → ℕ → ℕ → Result A EvalError → Type 0
IsEvaluated keeps inside step history func t time node before after Fits reads reads' result =
    HasEvaluated keeps history (asks_in inside history func t time) node (cost step history (passed_outside inside history before.passed) t node time) before after Fits reads reads' result

-- what ranges remember
abbrev pub kept_by : LastAsks → Passed → KeptOfRanges
kept_by last passed = record { last = last; passed = passed }

-- what a whole expression asks, which is no argument of a function
abbrev pub asks_of : List Entry → Tree → ℕ → List (Option Sought)
asks_of history t time = asks_in false history PresentOverTime t time

abbrev pub MayBegin : List (List Pair × Stored) → List Entry → Tree → ℕ → Type 0 → LastAsks → Type 0
MayBegin head history t time Fits last = MayEval head history t time (asks_of history t time) 0 Fits last
