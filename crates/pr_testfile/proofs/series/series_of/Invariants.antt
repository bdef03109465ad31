use Rattle.std.proofs.Common.{◌≡◌, ◌++◌, Some, map, length}
use Rattle.std.specs.List.{filter_map}
use Rattle.pr_yaml.specs.Tree.{tree_of}
use Rattle.pr_testfile.specs.Series.{input_of}
use Rattle.pr_testfile.proofs.series.series_of.Given as goal

abbrev pub invariant-items : goal.invariant-items
invariant-items l = l.series ++ filter_map (input_of (Some l.interval)) (map tree_of l.rest) ≡ filter_map (input_of (Some l.interval)) (map tree_of l.items)

abbrev pub decreases-items : goal.decreases-items
decreases-items l = length l.rest
