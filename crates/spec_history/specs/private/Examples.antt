-- Small histories to try the definitions on.
use Rattle.std.specs.Prelude.{ℕ, ◌*◌, ◌^◌, pos, List, [], ◌∷◌, codes}
use Rattle.pr_num.specs.declared.value.Num.{Num}
use Rattle.pr_num.specs.declared.value.Num.TheVariants.{Finite}
use Rattle.pr_num.specs.declared.value.Point.{Point}
use Rattle.pr_num.specs.declared.value.Point.TheVariants.{Value, Stale}
use Rattle.pr_labels.specs.declared.pair.Pair.{Pair}
use Rattle.pr_labels.specs.LabelSet.{named, pair_of}
use Rattle.spec_history.specs.declared.entry.Entry.{Entry}

-- the series of the metric m
abbrev pub m : List Pair
m = named (codes "m")

-- a job and no metric name
abbrev pub job : List ℕ → List Pair
job name = pair_of (codes "job") name ∷ []

-- a whole number, and a point that holds it
abbrev pub number : ℕ → Num
number n = Finite (pos (n * 10 ^ 9))

abbrev pub whole : ℕ → Point
whole n = Value (number n)

abbrev pub entry_at : ℕ → Point → Entry
entry_at time point = record { labels = m; time = time; point = point }

-- m is 1 at time 0
abbrev pub one : List Entry
one = entry_at 0 (whole 1) ∷ []

-- and then a marker a minute later
abbrev pub marked : List Entry
marked = entry_at 0 (whole 1) ∷ entry_at 60000 Stale ∷ []

-- m is 1, 2 and 3, a minute after one another
abbrev pub three : List Entry
three = entry_at 0 (whole 1) ∷ entry_at 60000 (whole 2) ∷ entry_at 120000 (whole 3) ∷ []
