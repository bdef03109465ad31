-- The names that labels of a rule take out.
use Rattle.std.specs.Prelude.{ℕ, List, filter, map, not}
use Rattle.pr_labels.specs.declared.pair.Pair.{Pair}
use Rattle.pr_labels.specs.Edits.{has_value}

-- the names whose values are empty
abbrev pub emptied : List Pair → List (List ℕ)
emptied over = map (λ p. p.name) (filter (λ p. not (has_value p)) over)
