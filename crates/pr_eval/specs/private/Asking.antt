-- What an expression asks of ranges.
use Rattle.std.specs.Prelude.{ℕ, ℤ, pos, ◌-ℤ◌, Bool, true, cond, List, [], ◌∷◌, ◌++◌, map, Option, Some, None, is_some, unwrap_or}
use Rattle.pr_labels.specs.declared.pair.Pair.{Pair}
use Rattle.pr_range.specs.spec_history.declared.entry.Entry.{Entry}
use Rattle.pr_ast.specs.declared.names.Func.{Func}
use Rattle.pr_ast.specs.declared.names.Func.TheVariants.{AbsentOverTime, Rate, Increase, Delta, Irate, Idelta, Deriv, PredictLinear, Changes, Resets, SumOverTime, AvgOverTime, MinOverTime, MaxOverTime, CountOverTime, LastOverTime, PresentOverTime, QuantileOverTime}
use Rattle.pr_ast.specs.Tree.{Tree, number, text, select, range, sub, neg, binary, call, aggregate, none, more}
use Rattle.pr_range.specs.spec_vectors.declared.range.RangeFn.{RangeFn}
use Rattle.pr_range.specs.spec_vectors.declared.range.RangeFn.TheVariants as asked
use Rattle.spec_meaning.specs.Selection.{chosen_by, moment_of}
use Rattle.pr_range.specs.private.Asks.{LastAsk}
use Rattle.pr_eval.specs.private.RangeCallsAsking.{series_number}

-- The function that a call asks ranges for, where it takes one; `absent_over_time` asks whether
-- there is a value.
abbrev pub range_fn : Func → Option RangeFn
range_fn AbsentOverTime = Some asked.PresentOverTime
range_fn Rate = Some asked.Rate
range_fn Increase = Some asked.Increase
range_fn Delta = Some asked.Delta
range_fn Irate = Some asked.Irate
range_fn Idelta = Some asked.Idelta
range_fn Deriv = Some asked.Deriv
range_fn PredictLinear = Some asked.PredictLinear
range_fn Changes = Some asked.Changes
range_fn Resets = Some asked.Resets
range_fn SumOverTime = Some asked.SumOverTime
range_fn AvgOverTime = Some asked.AvgOverTime
range_fn MinOverTime = Some asked.MinOverTime
range_fn MaxOverTime = Some asked.MaxOverTime
range_fn CountOverTime = Some asked.CountOverTime
range_fn LastOverTime = Some asked.LastOverTime
range_fn PresentOverTime = Some asked.PresentOverTime
range_fn QuantileOverTime = Some asked.QuantileOverTime
range_fn _ = None

abbrev pub takes_range : Func → Bool
takes_range f = is_some (range_fn f)

-- the same of any call, in which a range that stands in no call of its own would be asked
abbrev pub asked_for : Func → RangeFn
asked_for f = unwrap_or (range_fn f) asked.PresentOverTime

-- what is asked for a range selector: a function over a range, of the series with these numbers
pub record Sought : Type 0 where
  pub ask : LastAsk
  pub numbers : List ℕ

abbrev pub sought : List Entry → RangeFn → ℤ → ℤ → List (List Pair) → Sought
sought history func from to sets = record { ask = record { func = func; from = from; to = to }; numbers = map (series_number history) sets }

-- What is asked at a time for each range selector of a tree, in the order of their numbers; nothing
-- that stays for one inside a subquery. A range selector is asked for the function that it is an
-- argument of.
abbrev pub asks_in : Bool → List Entry → RangeFn → Tree → ℕ → List (Option Sought)
asks_in inside history func (range p s d) time = cond inside None (Some (sought history func (moment_of s time -ℤ pos d) (moment_of s time) (chosen_by s history))) ∷ []
asks_in inside history func (sub p t d i o) time = asks_in true history func t time
asks_in inside history func (neg p t) time = asks_in inside history func t time
asks_in inside history func (binary p o b m l r) time = asks_in inside history func l time ++ asks_in inside history func r time
asks_in inside history func (call p f ts) time = asks_in inside history (asked_for f) ts time
asks_in inside history func (aggregate p o g ts) time = asks_in inside history func ts time
asks_in inside history func (more ts t) time = asks_in inside history func ts time ++ asks_in inside history func t time
asks_in inside history func (number p v) time = []
asks_in inside history func (text p t) time = []
asks_in inside history func (select p s) time = []
asks_in inside history func none time = []
