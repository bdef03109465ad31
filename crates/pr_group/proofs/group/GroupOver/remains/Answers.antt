use Rattle.std.proofs.Common.{flat_map, fold, ap, ◌∙◌}
use Rattle.pr_ast.specs.pr_labels.Rising.{with_labels}
use Rattle.pr_rule.specs.declared.remembered.Remembered.{Remembered}
use Rattle.pr_group.specs.private.Keeping.{KeptGroup}
use Rattle.pr_group.proofs.Going.{remain_so}
use Rattle.pr_group.proofs.group.GroupOver.remains.Goals as goal

pub returns : goal.returns
returns g c = λ history group kept.
    remain_so g.R.Ranges.fits g.R.Ranges.last g.R.Ranges.passed c.args.self.now history group kept (λ v. v.items) c.listed.result c.add_written.new.sets.keys c.as_slice.result.now c.deref.result.now
    (c.as_slice.ensures ∙ ap (λ (k : KeptGroup g.row.R.Denot). k.leftovers) c.self.view_is) (c.deref.ensures.value ∙ ap (λ (k : KeptGroup g.row.R.Denot). k.rules) c.self.view_is)
    (c.in_ok-add_written.ensures ∙ ap (λ keys. fold with_labels keys (flat_map (λ (m : Remembered g.row.R.Denot). m.previous) c.deref.result.now)) (c.in_ok-add_all.ensures ∙ ap (λ keys. fold with_labels keys c.as_slice.result.now) c.new-sets.ensures.empty)) c.listed.ensures
