-- The series of a test, and their samples.
use Rattle.std.specs.Prelude.{ℕ, ◌*◌, max, Bool, false, ◌||◌, List, [], ◌∷◌, ◌++◌, codes, Option, Some, None, unwrap_or, if◌then◌else◌}
use Rattle.std.specs.List.{flat_map, filter_map, fold, range_with_len, slice_get}
use Rattle.std.specs.Option.{option_map}
use Rattle.pr_num.specs.declared.value.Point.{Point}
use Rattle.pr_ast.specs.pr_labels.declared.pair.Pair.{Pair}
use Rattle.pr_ast.specs.pr_labels.Order.{labels_eq}
use Rattle.pr_yaml.specs.Tree.{Tree, EntryTree}
use Rattle.pr_testfile.specs.declared.inputs.stretch.Stretch.{Stretch}
use Rattle.pr_testfile.specs.declared.inputs.input.InputSeries.{InputSeries}
use Rattle.pr_testfile.specs.declared.inputs.input.Input.{Input}
use Rattle.pr_testfile.specs.Points.{points, total}
use Rattle.pr_rulefile.specs.declared.fields.problem.Problem.{Problem}
use Rattle.pr_rulefile.specs.declared.fields.problem.ProblemKind.TheVariants.{DuplicateSeries}
use Rattle.pr_rulefile.specs.Nodes.{line_of, items_in, fields_of, fields_in, field}
use Rattle.pr_rulefile.specs.Problems.{problem}
use Rattle.pr_rulefile.specs.Maps.{required, map_problems, list_problems}
use Rattle.pr_rulefile.specs.spec_history.declared.entry.Entry.{Entry}
use Rattle.pr_testfile.specs.declared.fields.SeriesField.{SeriesField}
use Rattle.pr_testfile.specs.declared.fields.SeriesField.TheVariants as kind
use Rattle.pr_testfile.specs.Fields.{series_field}
use Rattle.pr_testfile.specs.Scalars.{series_problems, values_problems, series_in, labels_under, stretches_under}

-- What is wrong with a series, whose values stand at the multiples of an interval where one is
-- told: its text and its values have to be there.
abbrev pub input_missing : ℕ → List EntryTree → List Problem
input_missing line es = required line (codes "series") (field (codes "series") es) ++ required line (codes "values") (field (codes "values") es)

abbrev pub input_value_problems : Option ℕ → SeriesField → Tree → List Problem
input_value_problems interval kind.Series t = series_problems t
input_value_problems interval kind.Values t = values_problems interval t

abbrev pub input_fields : Option ℕ → List ℕ → Option (Tree → List Problem)
input_fields interval key = option_map (input_value_problems interval) (series_field key)

abbrev pub input_problems : Option ℕ → Tree → List Problem
input_problems interval = map_problems input_missing (input_fields interval)

-- which label sets the series have that stand before: none at first, and then also that of one more
abbrev pub no_series : List Pair → Bool
no_series labels = false

abbrev pub and_series : (List Pair → Bool) → Option (List Pair) → List Pair → Bool
and_series before None = before
and_series before (Some labels) = λ other. before other || labels_eq labels other

-- No series has the labels of one before it in its test.
abbrev pub by_labels : (List Pair → Bool) → ℕ → Option (List Pair) → List Problem
by_labels before line None = []
by_labels before line (Some labels) = if before labels then problem line DuplicateSeries ∷ [] else []

abbrev pub repeat_problems : (List Pair → Bool) → Option Tree → List Problem
repeat_problems before None = []
repeat_problems before (Some t) = by_labels before (line_of t) (series_in t)

abbrev pub series_of : Tree → Option Tree
series_of t = field (codes "series") (fields_in t)

unfoldable pub duplicate_problems : (List Pair → Bool) → List Tree → List Problem
duplicate_problems before [] = []
duplicate_problems before (t ∷ ts) = repeat_problems before (series_of t) ++ duplicate_problems (and_series before (labels_under (series_of t))) ts

unfoldable pub inputs_problems : Option ℕ → Tree → List Problem
inputs_problems interval t = list_problems (input_problems interval) t ++ duplicate_problems no_series (items_in t)

-- A series with its values.
unfoldable pub series_with : Option ℕ → List EntryTree → InputSeries
series_with interval es = record {
  labels = unwrap_or (labels_under (field (codes "series") es)) [];
  values = stretches_under interval (field (codes "values") es);
}

abbrev pub input_of : Option ℕ → Tree → Option InputSeries
input_of interval t = option_map (series_with interval) (fields_of t)

abbrev pub input_at : ℕ → List Tree → Input
input_at interval ts = record { interval = interval; series = filter_map (input_of (Some interval)) ts }

-- what a series has at a place
abbrev pub held : Option (Option Point) → Option Point
held None = None
held (Some p) = p

unfoldable pub point_at : List Stretch → ℕ → Option Point
point_at stretches i = held (slice_get (points stretches) i)

abbrev pub entry_by : List Pair → ℕ → Option Point → Option Entry
entry_by labels time None = None
entry_by labels time (Some p) = Some (record { labels = labels; time = time; point = p })

-- the sample that a series has at a place, which stands at so many intervals
abbrev pub entry_at : ℕ → ℕ → InputSeries → Option Entry
entry_at interval i s = entry_by s.labels (i * interval) (point_at s.values i)

-- the samples at a place, in the order of the series
unfoldable pub entries_at : ℕ → List InputSeries → ℕ → List Entry
entries_at interval series i = filter_map (entry_at interval i) series

-- how many places the longest series has
abbrev pub longer : ℕ → InputSeries → ℕ
longer most s = max most (total s.values)

unfoldable pub places : List InputSeries → ℕ
places series = fold longer 0 series

-- The samples of a test in order of time, and at one time in the order of the series.
unfoldable pub entries_of : Input → List Entry
entries_of input = flat_map (entries_at input.interval input.series) (range_with_len 0 (places input.series))
