-- The labels of a series text, as a function of its bytes.
use Rattle.std.specs.Prelude.{◌≡◌, ℕ, Option, Some, None, List}
use Rattle.std.specs.Option.{option_map}
use Rattle.pr_words.specs.pr_forms.Form.{rule}
use Rattle.pr_words.specs.pr_forms.Reading.{reading, bad_place}
use Rattle.pr_words.specs.Strings.{seen}
use Rattle.pr_labels.specs.declared.pair.Pair.{Pair}
use Rattle.pr_labels.specs.declared.series.series.TextFault.{TextFault}
use Rattle.pr_labels.specs.declared.series.series.TextFault.TheVariants.{BadLabels, Memory}
use Rattle.pr_labels.specs.Edits.{labels_of}
use Rattle.pr_labels.specs.SeriesGrammar.{production, Series, SeriesValue, listed}
use Rattle.pr_labels.specs.SeriesTable.{table, steps}

abbrev pub pairs_in : Option SeriesValue → Option (List Pair)
pairs_in (Some (listed pairs)) = Some pairs
pairs_in _ = None

-- The labels in the order of the text, where it is a series text; values may be empty.
unfoldable pub series_pairs : List ℕ → Option (List Pair)
series_pairs text = pairs_in (reading production table steps (rule Series) (seen text))

-- The first place at which no series text can go on.
unfoldable pub bad_series_place : List ℕ → ℕ
bad_series_place text = bad_place production table steps (rule Series) (seen text)

-- The label set of the text, where it is a series text.
unfoldable pub series_labels : List ℕ → Option (List Pair)
series_labels text = option_map labels_of (series_pairs text)

-- The text has no label set, and the fault is at its first bad place. Nothing is said where memory
-- runs out.
abbrev pub HasNoLabels : List ℕ → TextFault → Type 0
HasNoLabels text (BadLabels at) = (series_labels text ≡ None) × (at ≡ bad_series_place text)
HasNoLabels text Memory = Unit {0}
