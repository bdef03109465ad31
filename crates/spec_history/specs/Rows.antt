-- Entries of the history as kept rows, and back.
use Rattle.std.specs.Prelude.{ℕ, ◌^◌, ◌<◌, List, cond, nat_lt, Option, Some, None}
use Rattle.std.specs.Str.{bytes_eq}
use Rattle.pr_num.specs.declared.value.Point.{Point}
use Rattle.pr_labels.specs.declared.pair.Pair.{Pair}
use Rattle.pr_labels.specs.LabelSet.{IsLabelSet}
use Rattle.pr_labels.specs.SeriesText.{series_text}
use Rattle.pr_labels.specs.SeriesReading.{series_labels}
use Rattle.spec_history.specs.declared.entry.Entry.{Entry}
use Rattle.spec_history.specs.declared.row.Row.{Row}
use Rattle.spec_history.specs.Points.{IsFitPoint, shown_point, point_of}

-- The row of an entry: the printed label set, the time, and the printed value or `stale`.
abbrev pub encoded : Entry → Row
encoded e = record { series = series_text e.labels; time = e.time; point = shown_point e.point }

-- what every entry is
pub record IsEntry (e : Entry) : Type 0 where
  pub labels : IsLabelSet e.labels
  pub time : e.time < 2 ^ 42
  pub point : IsFitPoint e.point

-- a label set, or a point, whose printed text this is
abbrev pub printed_labels : List ℕ → Option (List Pair) → Option (List Pair)
printed_labels text None = None
printed_labels text (Some labels) = cond (bytes_eq (series_text labels) text) (Some labels) None

abbrev pub printed_point : List ℕ → Option Point → Option Point
printed_point text None = None
printed_point text (Some point) = cond (bytes_eq (shown_point point) text) (Some point) None

-- the parts of a row: the label set and the point whose printed texts it has, and its time
abbrev pub labels_in : List ℕ → Option (List Pair)
labels_in text = printed_labels text (series_labels text)

abbrev pub point_in : List ℕ → Option Point
point_in text = printed_point text (point_of text)

abbrev pub time_in : ℕ → Option ℕ
time_in ms = cond (nat_lt ms (2 ^ 42)) (Some ms) None

abbrev pub entry_of : Option (List Pair) → Option ℕ → Option Point → Option Entry
entry_of None time point = None
entry_of (Some labels) None point = None
entry_of (Some labels) (Some time) None = None
entry_of (Some labels) (Some time) (Some point) = Some (record { labels = labels; time = time; point = point })

-- the entry of a row, where the row is the row of one
unfoldable pub decoded : Row → Option Entry
decoded row = entry_of (labels_in row.series) (time_in row.time) (point_in row.point)
