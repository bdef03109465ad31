-- What becomes of entries that are put one after another.
use Rattle.std.specs.Prelude.{ℕ, Bool, true, false, not, List, [], ◌∷◌, map, filter, count_by}
use Rattle.std.specs.List.{zip}
use Rattle.pr_num.specs.declared.value.Point.TheVariants.{Stale}
use Rattle.pr_labels.specs.declared.pair.Pair.{Pair}
use Rattle.pr_labels.specs.Rising.{is_among}
use Rattle.spec_history.specs.declared.append.Append.{Append}
use Rattle.spec_history.specs.declared.append.Append.TheVariants as append
use Rattle.spec_history.specs.declared.entry.Entry.{Entry}
use Rattle.spec_history.specs.Admission.{admit, put}

-- what is answered to each
abbrev pub admissions : List Entry → List Entry → List Append
admissions history [] = []
admissions history (e ∷ es) = admit history e.labels e.time e.point ∷ admissions (put history e) es

abbrev pub is_added : Append → Bool
is_added append.Added = true
is_added append.Same = false
is_added (append.OutOfOrder last) = false
is_added (append.Conflict kept) = false

-- whether the series shows the point then
abbrev pub is_shown : Append → Bool
is_shown append.Added = true
is_shown append.Same = true
is_shown (append.OutOfOrder last) = false
is_shown (append.Conflict kept) = false

-- the entries that are added, and those that their series show then
abbrev pub answered_so : (Append → Bool) → List Entry → List Entry → List Entry
answered_so test history entries = map (λ p. p.0) (filter (λ p. test p.1) (zip entries (admissions history entries)))

abbrev pub admitted : List Entry → List Entry → List Entry
admitted history entries = answered_so is_added history entries

abbrev pub shown_entries : List Entry → List Entry → List Entry
shown_entries history entries = answered_so is_shown history entries

abbrev pub added_count : List Entry → List Entry → ℕ
added_count history entries = count_by is_added (admissions history entries)

abbrev pub refused_count : List Entry → List Entry → ℕ
refused_count history entries = count_by (λ a. not (is_shown a)) (admissions history entries)

abbrev pub label_sets_of : List Entry → List (List Pair)
label_sets_of entries = map (λ e. e.labels) entries

-- Markers

abbrev pub marker : ℕ → List Pair → Entry
marker now labels = record { labels = labels; time = now; point = Stale }

-- a marker for each series of a set that a later one has not
abbrev pub markers : ℕ → List (List Pair) → List (List Pair) → List Entry
markers now old new = map (marker now) (filter (λ labels. not (is_among labels new)) old)
