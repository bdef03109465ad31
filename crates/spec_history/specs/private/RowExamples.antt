-- Small entries and rows.
use Rattle.std.specs.Prelude.{ℕ, pos, [], ◌∷◌, List, codes}
use Rattle.pr_num.specs.declared.value.Num.TheVariants.{Finite}
use Rattle.pr_num.specs.declared.value.Point.{Point}
use Rattle.pr_num.specs.declared.value.Point.TheVariants.{Value, Stale}
use Rattle.pr_labels.specs.LabelSet.{metric_label, pair_of}
use Rattle.spec_history.specs.declared.entry.Entry.{Entry}
use Rattle.spec_history.specs.declared.row.Row.{Row}

abbrev pub row : List ℕ → ℕ → List ℕ → Row
row series time point = record { series = series; time = time; point = point }

abbrev pub sample : Entry
sample = record { labels = pair_of metric_label (codes "a") ∷ pair_of (codes "b") (codes "c") ∷ []; time = 7; point = Value (Finite (pos 1500000000)) }

abbrev pub marker : Entry
marker = record { labels = []; time = 0; point = Stale }

-- the row of the series `m` of this point at this time, and the entry of the value 1 or of the marker
abbrev pub row_at : ℕ → List ℕ → Row
row_at time point = row (codes "m") time point

abbrev pub entry_at : ℕ → Point → Entry
entry_at time point = record { labels = pair_of metric_label (codes "m") ∷ []; time = time; point = point }

abbrev pub one_at : ℕ → Entry
one_at time = entry_at time (Value (Finite (pos 1000000000)))
