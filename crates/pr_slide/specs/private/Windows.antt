-- What is kept of a series for a range selector from one ask to the next.
use Rattle.std.specs.Prelude.{◌≡◌, ℕ, ℤ, ◌≤◌, ◌++◌, ◌&&◌, max, Bool, true, cond, List, [], length, filter, take, slice_get, Option, Some, option_and_then, nat_eq}
use Rattle.std.specs.List.{list_all, filter_map}
use Rattle.std.specs.Map.{lookup}
use Rattle.std.specs.Option.{option_map, option_map_or}
use Rattle.pr_head.specs.pr_labels.declared.pair.Pair.{Pair}
use Rattle.pr_head.specs.spec_history.declared.entry.Entry.{Entry}
use Rattle.pr_head.specs.spec_history.declared.spot.Spot.{Spot}
use Rattle.pr_head.specs.spec_history.private.Laws.{entries_of}
use Rattle.pr_head.specs.spec_history.Lookback.{is_after, is_until, spot_in}
use Rattle.pr_head.specs.private.Holds.{arrivals}
use Rattle.pr_head.specs.private.Stored.{Stored, position_of}
use Rattle.pr_range.specs.spec_vectors.declared.range.Ask.{Ask}
use Rattle.pr_range.specs.spec_vectors.declared.range.RangeFn.{RangeFn}
use Rattle.pr_range.specs.private.Asks.{LastAsk, LastAsks, Passed, remembered}
use Rattle.pr_range.specs.private.Spots.{samples_between, spots_of}
use Rattle.pr_slide.specs.declared.window.SeriesWindow.{SeriesWindow}
use Rattle.pr_slide.specs.private.Kinds.{is_told, kept_in, saved_in, tells}
use Rattle.pr_slide.specs.private.Later.{later}
use Rattle.pr_slide.specs.private.Successions.{is_rising}

-- The first entries of a series were passed, all until the end of a range, and the values of those
-- of them that are after its start are kept, in order.
pub record IsWindow (history : List Entry) (labels : List Pair) (a b : ℤ) (u : ℕ) (values : List Spot) : Type 0 where
  pub passed : u ≤ length (entries_of labels history)
  pub until : list_all (λ e. is_until b e.time) (take u (entries_of labels history)) ≡ true
  pub spots : values ≡ filter_map spot_in (filter (λ e. is_after a e.time) (take u (entries_of labels history)))

-- the last ask of a window
abbrev pub last_in : SeriesWindow → LastAsk
last_in w = record { func = w.func; from = w.from; to = w.to }

-- The windows of each range selector, which goes by its number, by the numbers of the series.
abbrev pub Nodes : Type 0
Nodes = List (ℕ × List (ℕ × SeriesWindow))

abbrev pub found : Nodes → ℕ → ℕ → Option SeriesWindow
found nodes node series = option_and_then (lookup (nat_eq series)) (lookup (nat_eq node) nodes)

abbrev pub last_asks : Nodes → LastAsks
last_asks nodes node series = option_map last_in (found nodes node series)

abbrev pub passed_in : Option SeriesWindow → ℕ
passed_in w = option_map_or (λ w. w.passed) w 0

abbrev pub spots_in : Option SeriesWindow → List Spot
spots_in w = option_map_or (λ w. kept_in w.spots) w []

-- how many looks are saved up
abbrev pub saved_by : Option SeriesWindow → ℕ
saved_by w = option_map_or (λ w. saved_in w.spots) w 0

abbrev pub saved_of : Nodes → ℕ → ℕ → ℕ
saved_of nodes node series = saved_by (found nodes node series)

-- whether what is kept tells a function; of no values it does
abbrev pub is_told_by : RangeFn → Option SeriesWindow → Bool
is_told_by f w = option_map_or (λ w. tells f w.spots) w true

abbrev pub passed_of : Nodes → Passed
passed_of nodes node series = passed_in (found nodes node series)

-- A window is that of a series of the history, and what is kept with the values tells its function, if it can.
pub record HasWindow (history : List Entry) (series : ℕ) (w : SeriesWindow) : Type 0 where
  pub labels : List Pair
  pub named : slice_get (arrivals history) series ≡ Some labels
  pub window : IsWindow history labels w.from w.to w.passed (kept_in w.spots)
  pub told : is_told w.func ≡ true → tells w.func w.spots ≡ true

-- Each window is true of the history.
abbrev pub AreWindowsOf : Nodes → List Entry → Type 0
AreWindowsOf nodes history = (node series : ℕ) (w : SeriesWindow) → found nodes node series ≡ Some w → HasWindow history series w

-- the values of a later range: those that are after its start, and those of the samples that were
-- not passed
abbrev pub slid_spots : Stored → Ask → ℕ → List Spot → List Spot
slid_spots s a passed spots = later a.from spots ++ spots_of (samples_between s (max (position_of s a.from) passed) (position_of s a.to))

-- A window has gone on to a later range: from another one, or from none.
pub record IsSlid (s : Stored) (a : Ask) (before : Option SeriesWindow) (w : SeriesWindow) : Type 0 where
  pub last : last_in w ≡ remembered a
  pub passed : w.passed ≡ position_of s a.to
  pub spots : kept_in w.spots ≡ slid_spots s a (passed_in before) (spots_in before)
  pub told : is_told a.func ≡ true → is_told_by a.func before ≡ true → is_rising (kept_in w.spots) ≡ true → tells a.func w.spots ≡ true

-- The window of a series has gone on, and the others are as they were.
pub record IsPutIn (s : Stored) (a : Ask) (series : ℕ) (before after : List (ℕ × SeriesWindow)) : Type 0 where
  pub window : SeriesWindow
  pub slid : IsSlid s a (lookup (nat_eq series) before) window
  pub put : (q : ℕ) → lookup (nat_eq q) after ≡ cond (nat_eq series q) (Some window) (lookup (nat_eq q) before)

-- The same of a range selector and a series.
pub record IsPut (s : Stored) (a : Ask) (node series : ℕ) (before after : Nodes) : Type 0 where
  pub window : SeriesWindow
  pub slid : IsSlid s a (found before node series) window
  pub put : (k q : ℕ) → found after k q ≡ cond (nat_eq node k && nat_eq series q) (Some window) (found before k q)
