-- Words of laws and examples, which nothing of the promise names.
use Rattle.std.specs.Prelude.{◌≡◌, ℕ, Bool, List, [], ◌∷◌, ◌++◌, filter, map, Option, ◌+◌, ℤ, ◌&&◌, length}
use Rattle.pr_labels.specs.declared.pair.Pair.{Pair}
use Rattle.spec_history.specs.declared.entry.Entry.{Entry}
use Rattle.spec_history.specs.declared.append.Append.TheVariants.{Added}
use Rattle.spec_history.specs.Admission.{is_of, admit}
use Rattle.spec_history.specs.Rows.{IsEntry}
use Rattle.std.specs.List.{filter_map, list_all}
use Rattle.std.specs.Option.{option_map}
use Rattle.pr_num.specs.declared.value.Num.{Num}
use Rattle.spec_history.specs.Lookback.{is_until, spot_at, spots_within}
use Rattle.std.specs.Str.{bytes_eq}
use Rattle.pr_labels.specs.declared.item.Item.{Item}
use Rattle.pr_labels.specs.LabelSet.{text_at}
use Rattle.spec_history.specs.Series.{chosen, element}

-- the entries of a series, in order of arrival, and their times
abbrev pub entries_of : List Pair → List Entry → List Entry
entries_of labels history = filter (is_of labels) history

abbrev pub times_of : List Pair → List Entry → List ℕ
times_of labels history = map (λ e. e.time) (entries_of labels history)

-- each entry is added to those before it
abbrev pub IsLawfulAfter : List Entry → List Entry → Type 0
IsLawfulAfter before [] = Unit {0}
IsLawfulAfter before (e ∷ rest) = (admit before e.labels e.time e.point ≡ Added) × IsLawfulAfter (before ++ e ∷ []) rest

abbrev pub IsLawful : List Entry → Type 0
IsLawful history = IsLawfulAfter [] history

-- each is an entry
abbrev pub AreEntries : List Entry → Type 0
AreEntries [] = Unit {0}
AreEntries (e ∷ rest) = IsEntry e × AreEntries rest

-- the value of a series at a moment
abbrev pub value_at : List Entry → ℤ → List Pair → Option Num
value_at history x labels = option_map (λ s. s.value) (spot_at history x labels)

-- the values alone
abbrev pub values_within : List Entry → List Pair → ℤ → ℤ → List Num
values_within history labels a b = map (λ s. s.value) (spots_within history labels a b)

-- how many entries a series has until a moment, markers among them
abbrev pub entries_until : List Entry → List Pair → ℤ → ℕ
entries_until history labels x = length (filter (λ e. is_of labels e && is_until x e.time) history)

-- whether a label set has each of the values that are asked for; an absent label is the empty text
abbrev pub has_values : List Pair → List Pair → Bool
has_values equal labels = list_all (λ q. bytes_eq (text_at labels q.name) q.value) equal

abbrev pub items_of : List Entry → ℤ → List (List Pair) → List (Item Num)
items_of history x sets = filter_map (λ labels. option_map (element labels) (value_at history x labels)) sets

-- the chosen series that have a value at a moment
abbrev pub values_shown : List Entry → List Pair → ℤ → List (Item Num)
values_shown history equal x = items_of history x (chosen (has_values equal) history)
