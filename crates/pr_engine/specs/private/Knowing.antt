-- Which list of targets a map stands for.
use Rattle.std.specs.Prelude.{◌≡◌, List}
use Rattle.std.specs.Map.{lookup}
use Rattle.pr_labels.specs.declared.pair.Pair.{Pair}
use Rattle.pr_labels.specs.Order.{labels_eq}
use Rattle.pr_manager.specs.spec_world.Targets.{Target, tracked_at}

-- label sets, each with the series that are tracked of the target
abbrev pub Tracked : Type 0
Tracked = List (List Pair × List (List Pair))

-- the same targets are known, and the same is tracked of each; their order does not count
abbrev pub Knows : Tracked → List Target → Type 0
Knows tracked targets = (labels : List Pair) → lookup (labels_eq labels) tracked ≡ tracked_at targets labels
