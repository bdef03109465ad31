use Rattle.std.proofs.Common.{◌≡◌, ◌++◌, map, length}
use Rattle.pr_yaml.specs.Tree.{tree_of}
use Rattle.pr_testfile.specs.Series.{no_series, duplicate_problems}
use Rattle.pr_testfile.specs.private.Known.{knows_labels}
use Rattle.pr_testfile.proofs.repeats.duplicate_problems.Given as goal

-- the problems so far, and those of the series that are left, are all
abbrev pub invariant-items : goal.invariant-items
invariant-items l =
    l.found.items ++ duplicate_problems (knows_labels l.sets) (map tree_of l.rest)
    ≡ l.initial.found.items ++ duplicate_problems no_series (map tree_of l.items)

abbrev pub decreases-items : goal.decreases-items
decreases-items l = length l.rest
