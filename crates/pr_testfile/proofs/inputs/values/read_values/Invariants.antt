use Rattle.std.proofs.Common.{◌≡◌, ◌≤◌, ◌+◌, ◌^◌, []}
use Rattle.std.specs.List.{slice_split}
use Rattle.std.specs.Option.{option_copied}
use Rattle.pr_words.specs.Bytes.{is_blank}
use Rattle.pr_testfile.specs.Values.{stretches_in}
use Rattle.pr_testfile.specs.private.Kept.{parts_after, answered}
use Rattle.pr_testfile.proofs.Parts.{room}
use Rattle.pr_testfile.proofs.inputs.values.read_values.Given as goal

-- what is kept so far, and the parts that are left, write what all parts write
abbrev pub invariant-items : goal.invariant-items
invariant-items l =
    (answered l.interval l.kept.items l.places (stretches_in (parts_after (option_copied l.left))) ≡ answered l.interval [] 0 (stretches_in (slice_split is_blank l.text)))
    × (l.places ≤ 2 ^ 20 + 1)

abbrev pub decreases-items : goal.decreases-items
decreases-items l = room (option_copied l.left)
