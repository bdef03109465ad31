-- A function of a range, asked of the series that a selector chooses.
use Rattle.std.specs.Prelude.{◌≡◌, ℕ, ◌==◌, ◌-ℤ◌, pos, Bool, false, not, cond, ◌&&◌, List, [], ◌∷◌, map, sum_by, Option, Some, None}
use Rattle.std.specs.List.{list_any, position_or_len}
use Rattle.pr_num.specs.declared.value.Num.{Num}
use Rattle.pr_labels.specs.declared.pair.Pair.{Pair}
use Rattle.pr_labels.specs.Order.{labels_eq}
use Rattle.pr_range.specs.spec_history.declared.entry.Entry.{Entry}
use Rattle.pr_range.specs.spec_history.private.Laws.{IsLawful, entries_until}
use Rattle.pr_range.specs.pr_head.private.Stored.{Stored}
use Rattle.pr_range.specs.pr_head.private.Holds.{Holds, IsWhole, arrivals, labels_at}
use Rattle.pr_ast.specs.declared.place.Place.{Place}
use Rattle.pr_ast.specs.declared.selector.Selector.{Selector}
use Rattle.pr_range.specs.spec_vectors.declared.range.Ask.{Ask}
use Rattle.pr_range.specs.spec_vectors.declared.range.RangeFn.{RangeFn}
use Rattle.pr_range.specs.spec_vectors.declared.range.RangeFn.TheVariants.{PresentOverTime}
use Rattle.pr_range.specs.spec_vectors.private.Laws.{ask_cost}
use Rattle.spec_meaning.specs.Selection.{chosen_by, moment_of}
use Rattle.pr_range.specs.private.Asks.{IsReadyToAsk, LastAsks, Passed, passed_for, remembered}
use Rattle.pr_eval.specs.declared.range_calls.call.RangeCall.{RangeCall}
use Rattle.pr_eval.specs.declared.range_calls.call.RangeAt.{RangeAt}

-- what is asked of a range selector at a time
abbrev pub ask_at : RangeFn → Option Num → Selector → ℕ → ℕ → Bool → Ask
ask_at func arg s span time inside =
    let to = moment_of s time in
    record { from = to -ℤ pos span; to = to; func = func; arg = arg; inside = inside }

-- A head stands for a lawful history and has forgotten nothing above the start of the range, what
-- is kept is true of the history, and every series may be asked.
pub record MayAskEach (head : List (List Pair × Stored)) (history : List Entry) (a : Ask) (Fits : Type 0) (last : LastAsks) (node : ℕ) : Type 0 where
  pub lawful : IsLawful history
  pub holds : Holds head history
  pub whole : IsWhole head history a.from
  pub fits : Fits
  pub ready : (s : ℕ) → IsReadyToAsk last node s a

-- the number of a series of the history, by first arrival, and those of the series that a selector
-- chooses, in label order
abbrev pub series_number : List Entry → List Pair → ℕ
series_number history labels = position_or_len (labels_eq labels) (arrivals history)

abbrev pub numbers_chosen : List Entry → Selector → List ℕ
numbers_chosen history s = map (series_number history) (chosen_by s history)

abbrev pub is_number_among : ℕ → List ℕ → Bool
is_number_among s numbers = list_any (λ n. n == s) numbers

-- how many samples of a series were passed for a node, by the labels of the series
abbrev pub passed_by : List Entry → Passed → ℕ → List Pair → ℕ
passed_by history passed node labels = passed node (series_number history labels)

-- how many samples of these series may be read, where so many of each were passed
abbrev pub asks_cost : List Entry → Ask → (List Pair → ℕ) → List (List Pair) → ℕ
asks_cost history a passed sets = sum_by (λ labels. ask_cost history labels a (passed_for a (passed labels))) sets

-- Where asks are remembered, one outside subqueries is now the last one of its node and of each of
-- these series, and all of the series until its end count as passed; what is known of others stays.
abbrev pub is_asked : Bool → Ask → ℕ → List ℕ → ℕ → ℕ → Bool
is_asked keeps a node numbers k s = keeps && (not a.inside && ((node == k) && is_number_among s numbers))

pub record AreAsked (history : List Entry) (keeps : Bool) (node : ℕ) (a : Ask) (numbers : List ℕ) (last last' : LastAsks) (passed passed' : Passed) : Type 0 where
  pub asks : (k s : ℕ) → last' k s ≡ cond (is_asked keeps a node numbers k s) (Some (remembered a)) (last k s)
  pub passing : (k s : ℕ) → passed' k s ≡ cond (is_asked keeps a node numbers k s) (entries_until history (labels_at (arrivals history) s) a.to) (passed k s)

-- no number comes twice
abbrev pub AreOnce : List ℕ → Type 0
AreOnce [] = Unit {0}
AreOnce (n ∷ numbers) = (is_number_among n numbers ≡ false) × AreOnce numbers

-- how many samples of the series with these numbers may be read
abbrev pub numbers_cost : List Entry → Ask → (ℕ → ℕ) → List ℕ → ℕ
numbers_cost history a passed numbers = sum_by (λ n. ask_cost history (labels_at (arrivals history) n) a (passed_for a (passed n))) numbers

-- what a call asks of a range selector, and the call that `absent_over_time` is
abbrev pub asked_by : RangeCall → RangeAt → Ask
asked_by call range = ask_at call.func call.arg range.selector.now range.span range.time range.inside

abbrev pub presence : Place → RangeCall
presence p = record { place = p; func = PresentOverTime; arg = None }
