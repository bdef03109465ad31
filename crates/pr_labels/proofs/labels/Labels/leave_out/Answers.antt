use Rattle.std.proofs.Common.{◌≡◌, List, OnOk, [], subst}
use Rattle.std.specs.List.{remove}
use Rattle.pr_labels.specs.declared.pair.Pair.{Pair}
use Rattle.pr_labels.specs.Edits.{set_label}
use Rattle.pr_labels.proofs.Places.{emptied, taken_is_set}
use Rattle.pr_labels.proofs.labels.Labels.leave_out.Goals as goal

pub invariant_of-self : goal.invariant_of-self
invariant_of-self c =
    taken_is_set c.take_out.result c.self.inside.pairs c.take_out.new.pairs c.args.name.now c.in-Ok.place c.self.invariant (rw c.as_slice.ensures at c.in-Ok.ensures.found) c.take_out.ensures.ok c.take_out.ensures.err

pub returns-in-Ok-clause-set : goal.returns-in-Ok-clause-set
returns-in-Ok-clause-set c =
    let same : remove c.self.inside.pairs c.in-Ok.place ≡ set_label c.args.self.now c.args.name.now [] = emptied c.self.inside.pairs c.args.self.now c.args.name.now c.in-Ok.place c.self.invariant (rw c.as_slice.ensures at c.in-Ok.ensures.found) c.self.view_is in
    subst (λ (p : List Pair). OnOk c.take_out.result (c.take_out.new.pairs ≡ p)) same c.take_out.ensures.ok
