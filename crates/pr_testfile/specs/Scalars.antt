-- What test files have beside rule files: lengths of time above 0, series, values, numbers.
use Rattle.std.specs.Prelude.{ℕ, nat_lt, List, [], ◌∷◌, codes, Option, Some, None, option_and_then, unwrap_or, if◌then◌else◌}
use Rattle.std.specs.Str.{bytes_eq}
use Rattle.pr_num.specs.declared.value.Num.{Num}
use Rattle.pr_num.specs.declared.value.Num.TheVariants.{NaN}
use Rattle.pr_ast.specs.pr_labels.declared.pair.Pair.{Pair}
use Rattle.pr_ast.specs.pr_labels.SeriesReading.{series_labels}
use Rattle.pr_yaml.specs.Tree.{Tree}
use Rattle.pr_testfile.specs.declared.inputs.stretch.Stretch.{Stretch}
use Rattle.pr_testfile.specs.declared.inputs.values.Values.{Values}
use Rattle.pr_testfile.specs.declared.inputs.values.Values.TheVariants.{Stretches, TooMany, Bad}
use Rattle.pr_testfile.specs.Numbers.{number_of}
use Rattle.pr_testfile.specs.Values.{values_of}
use Rattle.pr_rulefile.specs.declared.fields.problem.Problem.{Problem}
use Rattle.pr_rulefile.specs.declared.fields.problem.ProblemKind.TheVariants.{BadSeries, BadValues, TooManyValues, BadValue, FuzzyCompare}
use Rattle.pr_rulefile.specs.Nodes.{line_of, text_of}
use Rattle.pr_rulefile.specs.Problems.{problem, by_text}
use Rattle.pr_rulefile.specs.Scalars.{short_span, by_span}

-- Intervals are lengths of time above 0.
abbrev pub if_positive : Option ℕ → Option ℕ
if_positive None = None
if_positive (Some ms) = if nat_lt 0 ms then Some ms else None

unfoldable pub interval_of : List ℕ → Option ℕ
interval_of text = if_positive (short_span text)

abbrev pub interval_text_problems : ℕ → List ℕ → List Problem
interval_text_problems line text = by_span line (interval_of text)

unfoldable pub interval_problems : Tree → List Problem
interval_problems t = by_text interval_text_problems (line_of t) (text_of t)

-- The interval that stands under a field, or else this one. Where what stands there is none, none
-- is told.
abbrev pub interval_in : Tree → Option ℕ
interval_in t = option_and_then interval_of (text_of t)

abbrev pub interval_or : Option ℕ → Option Tree → Option ℕ
interval_or default None = default
interval_or default (Some t) = interval_in t

-- series texts
abbrev pub by_series : ℕ → Option (List Pair) → List Problem
by_series line None = problem line BadSeries ∷ []
by_series line (Some labels) = []

abbrev pub series_text_problems : ℕ → List ℕ → List Problem
series_text_problems line text = by_series line (series_labels text)

unfoldable pub series_problems : Tree → List Problem
series_problems t = by_text series_text_problems (line_of t) (text_of t)

-- the label set of the series text that stands under a field
abbrev pub series_in : Tree → Option (List Pair)
series_in t = option_and_then series_labels (text_of t)

abbrev pub labels_under : Option Tree → Option (List Pair)
labels_under v = option_and_then series_in v

-- the values of a series, which stand at the multiples of an interval where one is told
abbrev pub by_values : ℕ → Values → List Problem
by_values line Bad = problem line BadValues ∷ []
by_values line TooMany = problem line TooManyValues ∷ []
by_values line (Stretches list) = []

abbrev pub values_text_problems : Option ℕ → ℕ → List ℕ → List Problem
values_text_problems interval line text = by_values line (values_of interval text)

unfoldable pub values_problems : Option ℕ → Tree → List Problem
values_problems interval t = by_text (values_text_problems interval) (line_of t) (text_of t)

-- the stretches of the values that stand under a field, none where there are no values, or too many
abbrev pub stretches_given : Values → List Stretch
stretches_given (Stretches list) = list
stretches_given TooMany = []
stretches_given Bad = []

abbrev pub stretches_by : Option ℕ → Option (List ℕ) → List Stretch
stretches_by interval None = []
stretches_by interval (Some text) = stretches_given (values_of interval text)

abbrev pub stretches_under : Option ℕ → Option Tree → List Stretch
stretches_under interval v = stretches_by interval (option_and_then text_of v)

-- number texts
abbrev pub by_number : ℕ → Option Num → List Problem
by_number line None = problem line BadValue ∷ []
by_number line (Some v) = []

abbrev pub number_text_problems : ℕ → List ℕ → List Problem
number_text_problems line text = by_number line (number_of text)

unfoldable pub number_problems : Tree → List Problem
number_problems t = by_text number_text_problems (line_of t) (text_of t)

-- the number that stands under a field, NaN where there is none
abbrev pub number_under : Option Tree → Num
number_under v = unwrap_or (option_and_then number_of (option_and_then text_of v)) NaN

-- what is expected is compared exactly
abbrev pub fuzzy_text_problems : ℕ → List ℕ → List Problem
fuzzy_text_problems line text = if bytes_eq text (codes "false") then [] else problem line FuzzyCompare ∷ []

unfoldable pub fuzzy_problems : Tree → List Problem
fuzzy_problems t = by_text fuzzy_text_problems (line_of t) (text_of t)
