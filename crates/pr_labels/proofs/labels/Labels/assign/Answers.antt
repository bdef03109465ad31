use Rattle.std.proofs.Common.{◌≡◌, true, ◌∙◌, ap}
use Rattle.pr_labels.specs.LabelSet.{pair_of}
use Rattle.pr_labels.specs.Names.{is_label_name}
use Rattle.pr_labels.proofs.Putting.{put_is_set, set_empty}
use Rattle.pr_labels.proofs.labels.Labels.assign.Goals as goal

pub returns-then-is_empty-clause-ok : goal.returns-then-is_empty-clause-ok
returns-then-is_empty-clause-ok c =
    rw (← set_empty c.args.name.now c.args.value.now c.args.self.now c.is_empty.result c.if-is_empty.true c.is_empty.ensures) c.leave_out.ensures.set

pub invariant_of-self : goal.invariant_of-self
invariant_of-self c =
    let named : is_label_name c.in_ok-from_str.field-0 ≡ true = ap is_label_name c.in_ok-from_str.ensures ∙ c.requires in
    put_is_set c.put_in.result c.self.inside.pairs c.put_in.new.pairs (pair_of c.in_ok-from_str.field-0 c.in_ok-from_str-2.field-0) c.self.invariant named c.put_in.ensures.ok c.put_in.ensures.err
