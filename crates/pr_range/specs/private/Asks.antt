-- What may be asked of ranges, and what is known after it.
use Rattle.std.specs.Prelude.{◌≡◌, ℕ, ℤ, ◌+◌, ◌≤◌, ◌≤ℤ◌, Bool, true, false, not, cond, ◌&&◌, ◌==◌, is_some, List, slice_get, Option, Some, Result}
use Rattle.spec_vectors.specs.pr_num.declared.value.Num.{Num}
use Rattle.pr_head.specs.pr_labels.declared.pair.Pair.{Pair}
use Rattle.pr_head.specs.spec_history.declared.entry.Entry.{Entry}
use Rattle.pr_head.specs.spec_history.private.Laws.{IsLawful, entries_until}
use Rattle.pr_head.specs.private.Stored.{Stored}
use Rattle.pr_head.specs.private.Holds.{Holds, sets_of}
use Rattle.spec_vectors.specs.declared.range.Ask.{Ask}
use Rattle.spec_vectors.specs.declared.range.RangeFn.{RangeFn}
use Rattle.spec_vectors.specs.declared.range.RangeFn.TheVariants.{PredictLinear, QuantileOverTime}
use Rattle.spec_vectors.specs.private.Laws.{answer_to, ask_cost}
use Rattle.pr_range.specs.declared.fault.RangeFault.{RangeFault}
use Rattle.pr_range.specs.private.Answers.{AnswersAsk}

-- Two functions take an argument, and no other does.
abbrev pub takes_argument : RangeFn → Bool
takes_argument PredictLinear = true
takes_argument QuantileOverTime = true
takes_argument _ = false

abbrev pub HasArgument : Ask → Type 0
HasArgument a = is_some a.arg ≡ takes_argument a.func

-- What is remembered of an ask: its function and its range.
pub record LastAsk : Type 0 where
  pub func : RangeFn
  pub from : ℤ
  pub to : ℤ

abbrev pub remembered : Ask → LastAsk
remembered a = record { func = a.func; from = a.from; to = a.to }

-- The last ask outside subqueries of each node and series, and how many samples of the series were
-- passed for the node.
abbrev pub LastAsks : Type 0
LastAsks = ℕ → ℕ → Option LastAsk

abbrev pub Passed : Type 0
Passed = ℕ → ℕ → ℕ

-- A head stands for a lawful history, has the series, and has forgotten nothing of it above the
-- start of the range. What it has forgotten of other series does not matter.
pub record MayAsk (head : List (List Pair × Stored)) (history : List Entry) (series : ℕ) (labels : List Pair) (a : Ask) : Type 0 where
  pub lawful : IsLawful history
  pub holds : Holds head history
  pub named : slice_get (sets_of head) series ≡ Some labels
  pub whole : (e : List Pair × Stored) → slice_get head series ≡ Some e → e.1.first ≤ entries_until history labels a.from

-- An ask outside subqueries may follow the last ones: the function of its node stays, and its range
-- does not begin or end earlier than the last one of its node and series. One inside a subquery may
-- always come.
pub record IsLater (last : LastAsks) (node series : ℕ) (a : Ask) : Type 0 where
  pub same : (s : ℕ) (b : LastAsk) → last node s ≡ Some b → b.func ≡ a.func
  pub from : (b : LastAsk) → last node series ≡ Some b → b.from ≤ℤ a.from
  pub to : (b : LastAsk) → last node series ≡ Some b → b.to ≤ℤ a.to

abbrev pub IsReadyToAsk : LastAsks → ℕ → ℕ → Ask → Type 0
IsReadyToAsk last node series a = a.inside ≡ false → IsLater last node series a

-- what counts as passed for an ask
abbrev pub passed_for : Ask → ℕ → ℕ
passed_for a passed = cond a.inside 0 passed

-- The answer is that of the history, and no more samples are read than those of the range that were
-- not passed.
pub record IsAskAnswer (history : List Entry) (labels : List Pair) (a : Ask) (passed : ℕ) (before after : ℕ) (result : Result (Option Num) RangeFault) : Type 0 where
  pub value : AnswersAsk (answer_to history labels a) result
  pub reads : after ≤ before + ask_cost history labels a (passed_for a passed)

-- whether an ask is remembered, and is that of this node and series
abbrev pub keeps_passed : Bool → Ask → ℕ → ℕ → ℕ → ℕ → Bool
keeps_passed keeps a node series k s = keeps && (not a.inside && ((node == k) && (series == s)))

-- Where asks are remembered, one outside subqueries becomes the last one of its node and series,
-- and all until its end count as passed; what is known of the others stays.
pub record AreMoved (keeps : Bool) (node series : ℕ) (a : Ask) (until : ℕ) (last last' : LastAsks) (passed passed' : Passed) : Type 0 where
  pub asks : (k s : ℕ) → last' k s ≡ cond (keeps_passed keeps a node series k s) (Some (remembered a)) (last k s)
  pub passing : (k s : ℕ) → passed' k s ≡ cond (keeps_passed keeps a node series k s) until (passed k s)
