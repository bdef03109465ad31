use Rattle.std.proofs.Common.{◌≡◌, length, arith}
use Rattle.std.proofs.lemmas.Bool.Decides.{nat_tests}
use Rattle.pr_labels.proofs.LabelSets.{none_listed}
use Rattle.pr_labels.specs.Edits.{unlisted_labels}
use Rattle.pr_labels.proofs.labels.Labels.without.Goals as goal

pub returns-then-is_empty : goal.returns-then-is_empty
returns-then-is_empty c =
    let none : length c.args.names.now ≡ 0 = grind (arith, nat_tests) in
    let all : c.args.self.now ≡ unlisted_labels c.args.self.now c.args.names.now = none_listed c.args.self.now c.args.names.now none in
    rw (← all) c.copy.ensures
