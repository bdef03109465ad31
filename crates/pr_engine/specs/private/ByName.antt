-- Labels that are kept by name.
use Rattle.std.specs.Prelude.{ℕ, List, map}
use Rattle.pr_labels.specs.declared.pair.Pair.{Pair}
use Rattle.pr_labels.specs.LabelSet.{pair_of}

-- the pairs of names with their values
abbrev pub labels_in : List (List ℕ × List ℕ) → List Pair
labels_in entries = map (λ e. pair_of e.0 e.1) entries
