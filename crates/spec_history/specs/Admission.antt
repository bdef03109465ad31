-- The history is one list of entries in order of arrival. What becomes of a point, and what it
-- adds.
use Rattle.std.specs.Prelude.{ℕ, Bool, cond, ◌==◌, nat_lt, List, [], ◌∷◌, ◌++◌, fold, find, reverse, Option, Some, None}
use Rattle.pr_num.specs.Same.{same_point}
use Rattle.pr_num.specs.declared.value.Point.{Point}
use Rattle.pr_labels.specs.Order.{labels_eq}
use Rattle.pr_labels.specs.declared.pair.Pair.{Pair}
use Rattle.spec_history.specs.declared.entry.Entry.{Entry}
use Rattle.spec_history.specs.declared.append.Append.{Append}
use Rattle.spec_history.specs.declared.append.Append.TheVariants.{Added, Same, OutOfOrder, Conflict}

-- whether an entry is one of the series
abbrev pub is_of : List Pair → Entry → Bool
is_of labels e = labels_eq e.labels labels

-- the last entry that passes a test
abbrev pub last_entry : (Entry → Bool) → List Entry → Option Entry
last_entry test history = find test (reverse history)

-- By the last entry of the series. Above its time a point is added; at its time an equal point is
-- the same, and another one a conflict; below it a point is out of order.
abbrev pub admit_after : Option Entry → ℕ → Point → Append
admit_after None time point = Added
admit_after (Some e) time point =
    cond (nat_lt e.time time) Added (cond (e.time == time) (cond (same_point e.point point) Same (Conflict e.point)) (OutOfOrder e.time))

abbrev pub admit : List Entry → List Pair → ℕ → Point → Append
admit history labels time point = admit_after (last_entry (is_of labels) history) time point

-- the history after it: one more entry where the point is added, and else as it was
abbrev pub put_by : Append → List Entry → Entry → List Entry
put_by Added history e = history ++ e ∷ []
put_by Same history e = history
put_by (OutOfOrder last) history e = history
put_by (Conflict kept) history e = history

abbrev pub put : List Entry → Entry → List Entry
put history e = put_by (admit history e.labels e.time e.point) history e

-- the history after entries that come one after another
abbrev pub put_all : List Entry → List Entry → List Entry
put_all history entries = fold put history entries
