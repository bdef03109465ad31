-- The pairs that are held, alone or with a count, all of them or all but the first.
use Rattle.std.specs.Prelude.{List, drop}
use Rattle.pr_labels.specs.declared.pair.Pair.{Pair}
use Rattle.pr_labels.specs.declared.labels.shared.Held.{Held}
use Rattle.pr_labels.specs.declared.labels.shared.Held.TheVariants.{Alone, Counted, Rest}

abbrev pub held_pairs : Held → List Pair
held_pairs (Alone pairs) = pairs.items
held_pairs (Counted counted) = counted.value
held_pairs (Rest counted) = drop 1 counted.value
