use Rattle.std.proofs.Common.{◌≡◌, length, arith}
use Rattle.std.proofs.lemmas.Bool.Decides.{nat_tests}
use Rattle.pr_labels.specs.Edits.{union_labels}
use Rattle.pr_labels.specs.LabelSet.{IsLabelSet}
use Rattle.pr_labels.proofs.Merged.{into_empty}
use Rattle.pr_labels.proofs.labels.Labels.union.Goals as goal

pub returns-then-is_empty-2 : goal.returns-then-is_empty-2
returns-then-is_empty-2 c =
    let held : length c.as_slice-own.result.now ≡ 0 = grind (arith, nat_tests) in
    let none : length c.args.self.now ≡ 0 = rw (← c.self.view_is, ← c.as_slice-own.ensures) held in
    let set : IsLabelSet c.args.over.now = rw (← c.over.view_is) c.over.invariant in
    let all : union_labels c.args.self.now c.args.over.now ≡ c.args.over.now = into_empty c.args.self.now c.args.over.now none set in
    rw all c.copy-then-is_empty-2.ensures
