-- An expression at each of the times of a subquery.
use Rattle.std.specs.Prelude.{◌≡◌, ◌≢◌, ◌≤◌, ◌+◌, ℕ, pos, ◌-ℤ◌, List, slice_get, Some, Result, Ok, Err}
use Rattle.std.specs.BTreeMap.{BTreeMap}
use Rattle.pr_labels.specs.declared.pair.Pair.{Pair}
use Rattle.pr_range.specs.spec_history.declared.entry.Entry.{Entry}
use Rattle.pr_range.specs.spec_history.declared.spot.Spot.{Spot}
use Rattle.pr_range.specs.pr_head.private.Stored.{Stored}
use Rattle.pr_ast.specs.declared.place.Place.{Place}
use Rattle.pr_ast.specs.Tree.{Tree}
use Rattle.spec_meaning.specs.declared.fault.Fault.{Fault}
use Rattle.spec_meaning.specs.Answers.{fault}
use Rattle.spec_meaning.specs.Subqueries.{Taken}
use Rattle.pr_eval.specs.declared.range_calls.of_subquery.SubqueryRange.{SubqueryRange}
use Rattle.pr_eval.specs.private.Taken.{AreTaken}
use Rattle.pr_eval.specs.declared.values.error.EvalError.{EvalError}
use Rattle.pr_eval.specs.declared.values.error.EvalError.TheVariants as error
use Rattle.pr_eval.specs.private.Evaluated.{IsSame, KeptOfRanges}
use Rattle.pr_eval.specs.private.Looks.{KeepsFor}

-- the range of a subquery at a time
abbrev pub range_of : Place → ℕ → ℕ → ℕ → SubqueryRange
range_of p span offset time =
    let to = pos time -ℤ pos offset in
    record { place = p; from = to -ℤ pos span; to = to }

-- An expression that may be evaluated at each of these times: the head tells all that it looks at
-- then, and what is kept of ranges is true.
pub record MayTakeEach (head : List (List Pair × Stored)) (history : List Entry) (t : Tree) (times : List ℕ) (Fits : Type 0) : Type 0 where
  pub keeps : (i time : ℕ) → slice_get times i ≡ Some time → KeepsFor head history t time
  pub fits : Fits

-- Nothing that stays was asked: what is kept of each range selector is as it was.
abbrev pub AreSame : KeptOfRanges → KeptOfRanges → Type 0
AreSame before after = (k : ℕ) → IsSame k before after

-- What is known after an evaluation inside a subquery, but for its answer: how many samples were
-- read at most, and where memory did not run out, that what is kept of ranges is true and as it
-- was.
pub record TakesInside {A : Type 0} (most : ℕ) (before after : KeptOfRanges) (Fits : Type 0) (reads reads' : ℕ) (result : Result A EvalError) : Type 0 where
  pub few : reads' ≤ reads + most
  pub fits : result ≢ Err error.Memory → Fits
  pub same : result ≢ Err error.Memory → AreSame before after

-- What was gathered are the elements of each time, or the first fault is meant.
abbrev pub AreSeriesGathered : Result (List Taken) Fault → Result (BTreeMap (List Pair) (List Spot)) EvalError → Type 0
AreSeriesGathered meant (Ok series) = (ts : List Taken) × ((meant ≡ Ok ts) × AreTaken ts series)
AreSeriesGathered meant (Err (error.Fault p k)) = meant ≡ Err (fault p k)
AreSeriesGathered meant (Err error.Memory) = Unit {0}
