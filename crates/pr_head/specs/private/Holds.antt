-- What a head stands for: the history, of which it may have forgotten the oldest samples of each
-- series.
use Rattle.std.specs.Prelude.{◌≡◌, ℕ, ◌≤◌, Bool, cond, ℤ, List, [], ◌∷◌, ◌++◌, length, get_or, map, filter, fold, drop, slice_get, Some}
use Rattle.std.specs.Option.{option_map}
use Rattle.spec_history.specs.pr_num.declared.value.Point.{Point}
use Rattle.pr_labels.specs.declared.pair.Pair.{Pair}
use Rattle.spec_history.specs.declared.entry.Entry.{Entry}
use Rattle.spec_history.specs.Admission.{is_of, last_entry}
use Rattle.spec_history.specs.private.Laws.{entries_of, entries_until}
use Rattle.pr_labels.specs.Rising.{is_among, with_labels}
use Rattle.pr_head.specs.declared.timed.Timed.{Timed}
use Rattle.pr_head.specs.private.Stored.{Stored}

abbrev pub timed : Entry → Timed
timed e = record { time = e.time; point = e.point }

abbrev pub entry_of : List Pair → ℕ → Point → Entry
entry_of labels time point = record { labels = labels; time = time; point = point }

-- the samples of a series, in order of arrival
abbrev pub samples_of : List Entry → List Pair → List Timed
samples_of history labels = map timed (entries_of labels history)

-- the series in order of first arrival
abbrev pub arrived : List (List Pair) → List Pair → List (List Pair)
arrived sets labels = cond (is_among labels sets) sets (sets ++ labels ∷ [])

abbrev pub arrivals : List Entry → List (List Pair)
arrivals history = fold arrived [] (map (λ e. e.labels) history)

-- the label sets of a head, and one of them
abbrev pub sets_of : List (List Pair × Stored) → List (List Pair)
sets_of head = map (λ e. e.0) head

abbrev pub labels_at : List (List Pair) → ℕ → List Pair
labels_at sets series = get_or sets series []

-- the label sets that pass a test, in label order, each once
abbrev pub chosen_of : (List Pair → Bool) → List (List Pair) → List (List Pair)
chosen_of test sets = fold with_labels [] (filter test sets)

-- What is held of a series are its samples without some first ones; the last is that of the
-- history.
pub record IsKept (history : List Entry) (labels : List Pair) (s : Stored) : Type 0 where
  pub first : s.first ≤ length (samples_of history labels)
  pub held : s.held ≡ drop s.first (samples_of history labels)
  pub last : option_map timed (last_entry (is_of labels) history) ≡ Some s.last

-- A head stands for a history: its series are those of the history, numbered by first arrival, and
-- each is kept.
pub record Holds (head : List (List Pair × Stored)) (history : List Entry) : Type 0 where
  pub numbered : sets_of head ≡ arrivals history
  pub each : (i : ℕ) (e : List Pair × Stored) → slice_get head i ≡ Some e → IsKept history e.0 e.1

-- Nothing above a moment is forgotten: what is no longer held of a series are entries until that
-- moment.
abbrev pub IsWhole : List (List Pair × Stored) → List Entry → ℤ → Type 0
IsWhole head history x = (i : ℕ) (e : List Pair × Stored) → slice_get head i ≡ Some e → e.1.first ≤ entries_until history e.0 x
